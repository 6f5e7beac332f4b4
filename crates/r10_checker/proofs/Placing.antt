-- The files of a directory that lie inside the medium.
use Rattle.std.proofs.Common.{◌≡◌, ℕ, ◌+◌, ◌*◌, true, List, [], ◌∷◌, map, length, Option, None, refl, sym, ◌∙◌, arith}
use Rattle.std.specs.List.{All}
use Rattle.std.proofs.lemmas.Bool.{leb-true}
use Rattle.std.proofs.lemmas.List.Elements.{All-cons, All-nil, All-head, All-tail, All-map, All-append}
use Rattle.r10_count.specs.Checks.{first_broken}
use Rattle.r10_medium.specs.Disk.{Image}
use Rattle.r10_dirblock.specs.Block.{has_room_for_size}
use Rattle.r10_dirchain.specs.Chain.{HoldsBlock, IsDirectory}
use Rattle.r10_dirchain.specs.Mount.{listed, listed_in}
use Rattle.r10_dirchain.specs.declared.chain.ChainBlock.{ChainBlock}
use Rattle.r10_dirchain.specs.declared.chain.ListedFile.{ListedFile}
use Rattle.r10_dirchain.proofs.RulesAsFacts.{each_of}
use Rattle.r10_checker.specs.Place.{inside_rule, inside_rules, is_inside, IsPlaced}

abbrev HasRoom : ListedFile → Type 0
HasRoom f = has_room_for_size f.entry ≡ true

-- the blocks of each file have room for its bytes
pub rooms : (image : Image) (chain : List ChainBlock) → All (HoldsBlock image) chain → All HasRoom (listed chain)
rooms image [] all = All-nil HasRoom
rooms image (b ∷ chain) all =
    All-append HasRoom (map (listed_in b.number) b.block.entries) (listed chain)
    (All-map HasRoom (listed_in b.number) b.block.entries (All-head (HoldsBlock image) b chain all).is.rooms)
    (rooms image chain (All-tail (HoldsBlock image) b chain all))

-- so the bytes of a file lie inside where its blocks do
pub placed : (image : Image) (f : ListedFile) → HasRoom f → is_inside (length image) f.entry ≡ true → IsPlaced image f
placed image f room inside =
    omega (arith, leb-true f.entry.size (512 * f.entry.block_count) room, leb-true (f.entry.first_block + f.entry.block_count) (length image) inside)

each_placed : (image : Image) (fs : List ListedFile) → All HasRoom fs → All (λ f. is_inside (length image) f.entry ≡ true) fs → All (IsPlaced image) fs
each_placed image [] room inside = All-nil (IsPlaced image)
each_placed image (f ∷ fs) room inside =
    All-cons (IsPlaced image) f fs
    (placed image f (All-head HasRoom f fs room) (All-head (λ g. is_inside (length image) g.entry ≡ true) f fs inside))
    (each_placed image fs (All-tail HasRoom f fs room) (All-tail (λ g. is_inside (length image) g.entry ≡ true) f fs inside))

pub all_placed : (image : Image) (chain : List ChainBlock) → IsDirectory image chain → first_broken (inside_rules (length image) chain) ≡ None → All (IsPlaced image) (listed chain)
all_placed image chain directory inside = each_placed image (listed chain) (rooms image chain directory.holds) (each_of (inside_rule (length image)) (listed chain) inside)

-- what is found of the files that are listed holds of the directory
pub found_of : (found : Option ℕ) (blocks : ℕ) (read image : Image) (seen items : List ListedFile) (chain : List ChainBlock) → found ≡ first_broken (map (inside_rule blocks) seen)
    → blocks ≡ length read → read ≡ image → seen ≡ items → items ≡ listed chain → first_broken (inside_rules (length image) chain) ≡ found
found_of found blocks read image seen items chain is many same here all = sym (is ∙ rw (many, same, here, all) refl)
