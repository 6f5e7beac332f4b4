-- The file that is asked for.
use Rattle.std.proofs.Common.{◌≡◌, ℕ, ◌<◌, Bool, true, List, length, Option, Some, sym, subst, ◌∙◌}
use Rattle.std.specs.Prelude.{slice_get}
use Rattle.std.proofs.lemmas.Option.{get_or_from_slice_get, slice_get_within}
use Rattle.r10_medium.specs.Disk.{Image}
use Rattle.r10_dirblock.specs.Block.{has_room_for_size}
use Rattle.r10_dirblock.specs.declared.entry.Entry.{Entry}
use Rattle.r10_dirchain.specs.Chain.{IsDirectory}
use Rattle.r10_dirchain.specs.Mount.{listed}
use Rattle.r10_dirchain.specs.declared.chain.ChainBlock.{ChainBlock}
use Rattle.r10_dirchain.specs.declared.chain.ListedFile.{ListedFile}
use Rattle.r10_checker.specs.Place.{is_inside, IsPlaced}
use Rattle.r10_checker.proofs.Placing.{placed, rooms}
use Rattle.r10_playback.specs.Played.{IsListed}

pub listed_file : (image : Image) (chain : List ChainBlock) (seen files : List ListedFile) (number : ℕ) (f : ListedFile) (got : Option ListedFile) → IsDirectory image chain → seen ≡ files → files ≡ listed chain
    → got ≡ slice_get seen number → got ≡ Some f → IsListed image number f
listed_file image chain seen files number f got directory same all at is =
    (chain, directory, subst (λ (l : List ListedFile). slice_get l number ≡ Some f) (same ∙ all) (sym at ∙ is))

pub inside_is : (b : Bool) (blocks : ℕ) (read image : Image) (e : Entry) → b ≡ is_inside blocks e → blocks ≡ length read → read ≡ image → is_inside (length image) e ≡ b
inside_is b blocks read image e is many same = rw (← same, ← many) (sym is)

pub placed_file : (image : Image) (number : ℕ) (f : ListedFile) → IsListed image number f → is_inside (length image) f.entry ≡ true → IsPlaced image f
placed_file image number f is inside =
    let chain = is.0 in
    let lt : number < length (listed chain) = slice_get_within (listed chain) number f is.2 in
    let room : has_room_for_size f.entry ≡ true = subst (λ (g : ListedFile). has_room_for_size g.entry ≡ true) (get_or_from_slice_get (listed chain) number f f is.2) (rooms image chain is.1.holds number f lt) in
    placed image f room inside
