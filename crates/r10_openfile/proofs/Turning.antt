-- The directory written anew with another entry of the last file: what the medium says at every moment, and then.
use Rattle.std.proofs.Common.{◌≡◌, ℕ, ◌≤◌, ◌⊎◌, inl, inr, ⊎_elim, true, List, [], ◌∷◌, ◌++◌, Result, sym, subst, ◌∙◌, arith, ext_get_or}
use Rattle.std.specs.Prelude.{◌≢◌, OnOk}
use Rattle.std.specs.List.{All}
use Rattle.std.proofs.lemmas.List.Elements.{All-nil}
use Rattle.std.proofs.lemmas.Bool.{false≢true}
use Rattle.r10_medium.specs.Disk.{Disk, Image}
use Rattle.r10_medium.specs.PowerLoss.{ComesBy, Settled}
use Rattle.r10_medium.proofs.PowerLoss.{settled_reads, weakened}
use Rattle.r10_dirblock.specs.declared.entry.Entry.{Entry as DirectoryEntry}
use Rattle.r10_dirchain.specs.declared.chain.ChainBlock.{ChainBlock}
use Rattle.r10_dirchain.specs.OnMedium.{SameButIn, Turned, Turns}
use Rattle.r10_dirchain.specs.Steps.{updated}
use Rattle.r10_dirchain.proofs.Turning.{on_ok}
use Rattle.r10_volume.specs.Holding.{OthersAreFound}
use Rattle.r10_volume.proofs.Relisting.{Relists, made_bytes, made_found, made_says, reserved, written_in}
use Rattle.r10_machine.specs.Config.{Config}
use Rattle.r10_machine.specs.Machine.{File}
use Rattle.r10_machine.specs.Bytes.{KeepBytes}
use Rattle.r10_machine.proofs.Said.{directory_keeps}
use Rattle.r10_machine.specs.Says.{MediumSays}
use Rattle.r10_openfile.specs.Keeping.{Becomes, StopKeepsFiles, Keeps}

-- ---- blocks after the reserved ones

pub none_zeroth : (numbers : List ℕ) → All (λ (n : ℕ). 1 ≤ n) numbers → All (λ (n : ℕ). 0 ≢ n) numbers
none_zeroth numbers some i d lt is = omega (arith, is, some i d lt)

-- a file of this recorder's own need not be found
pub found_still : (s : Config) (old : Image) (chain : List ChainBlock) (files : List File) (f g : File) (e : DirectoryEntry) → Relists s old chain files f g e → (new : Image) → Turned (updated e chain) (written_in chain) old new
    → OthersAreFound old (files ++ f ∷ []) → g.own ≡ true → OthersAreFound new (files ++ g ∷ [])
found_still s old chain files f g e makes new turned found own = made_found s old chain files f g e makes new turned found (λ other. absurd (false≢true (sym other ∙ own)))

-- ---- at every moment

nowhere : (from image : Image) → SameButIn [] from image → image ≡ from
nowhere from image same = ext_get_or [] image from same.size (λ k lt. same.others k (All-nil (λ (n : ℕ). k ≢ n)))

pub turn_moments : {T E : Type 0} (s : Config) (chain : List ChainBlock) (files : List File) (f g : File) (e : DirectoryEntry) (old new : Disk) (result : Result T E) → Relists s old.blocks chain files f g e
    → Turns chain (updated e chain) [] (written_in chain) old new result → Becomes s files f (files ++ g ∷ []) old new
turn_moments s chain files f g e old new result makes turns kept =
    weakened (λ image. ComesBy (SameButIn []) old image ⊎ Turned (updated e chain) (written_in chain) old.blocks image) (λ image. Keeps s files f old.blocks image ⊎ MediumSays s image (files ++ g ∷ [])) old new
    (λ image. ⊎_elim
    (λ from. inl (subst (Keeps s files f old.blocks) (sym (nowhere from.0 image from.2)) (kept from.0 from.1)))
    (λ turned. inr (made_says s old.blocks chain files f g e makes image turned)))
    turns.moments

pub turn_settled : {T E : Type 0} (s : Config) (chain : List ChainBlock) (files : List File) (f g : File) (e : DirectoryEntry) (old new : Disk) (result : Result T E) → Relists s old.blocks chain files f g e
    → Turns chain (updated e chain) [] (written_in chain) old new result → OnOk result (StopKeepsFiles s files g new)
turn_settled s chain files f g e old new result makes turns =
    let made : Image → Type 0 = Turned (updated e chain) (written_in chain) old.blocks in
    on_ok result (Settled made new) (StopKeepsFiles s files g new)
    (λ settled image now. record {
      says = made_says s old.blocks chain files f g e makes image (settled image now);
      bytes = made_bytes s old.blocks chain files f g e makes image g.size (settled image now) ∙ sym (made_bytes s old.blocks chain files f g e makes new.blocks g.size (settled_reads made new settled));
    })
    turns.settled

pub turn_reads : {T E : Type 0} (s : Config) (chain : List ChainBlock) (files : List File) (f g : File) (e : DirectoryEntry) (old new : Disk) (result : Result T E) → Relists s old.blocks chain files f g e
    → Turns chain (updated e chain) [] (written_in chain) old new result → MediumSays s new.blocks (files ++ f ∷ []) ⊎ MediumSays s new.blocks (files ++ g ∷ [])
turn_reads s chain files f g e old new result makes turns = ⊎_elim
    (λ turned. inl (subst (λ (l : Image). MediumSays s l (files ++ f ∷ [])) (sym (nowhere old.blocks new.blocks turned.others)) makes.says))
    (λ turned. inr (made_says s old.blocks chain files f g e makes new.blocks turned))
    turns.reads

-- the files keep their bytes
keep_twice : (old mid new : Image) (files : List File) → KeepBytes old mid files → KeepBytes mid new files → KeepBytes old new files
keep_twice old mid new [] keep keeps = tt
keep_twice old mid new (f ∷ files) (here, keep) (there, keeps) = (there ∙ here, keep_twice old mid new files keep keeps)

pub turn_bytes : {T E : Type 0} (s : Config) (chain : List ChainBlock) (files : List File) (f g : File) (e : DirectoryEntry) (before : Image) (old new : Disk) (result : Result T E) → Relists s old.blocks chain files f g e
    → Turns chain (updated e chain) [] (written_in chain) old new result → KeepBytes before old.blocks (files ++ f ∷ []) → KeepBytes before new.blocks (files ++ f ∷ [])
turn_bytes s chain files f g e before old new result makes turns kept = ⊎_elim
    (λ turned. subst (λ (l : Image). KeepBytes before l (files ++ f ∷ [])) (sym (nowhere old.blocks new.blocks turned.others)) kept)
    (λ turned. keep_twice before old.blocks new.blocks (files ++ f ∷ []) kept
    (directory_keeps s old.blocks new.blocks (written_in chain) (files ++ f ∷ []) makes.whole makes.says turned.others (reserved s old.blocks chain files f g e makes)))
    turns.reads
