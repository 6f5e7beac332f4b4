-- A file that was written after all others, while it is listed: what the medium says at every moment, and then.
use Rattle.std.proofs.Common.{◌≡◌, ℕ, ◌<◌, ◌≤◌, ◌⊎◌, inl, inr, ⊎_elim, Bool, true, false, List, [], ◌∷◌, ◌++◌, length, None, Some, Result, sym, subst, ◌∙◌, arith}
use Rattle.std.specs.Prelude.{◌≢◌, OnOk, if◌then◌else◌}
use Rattle.std.specs.List.{All}
use Rattle.std.proofs.lemmas.List.Elements.{All-nil, All-cons, All-tail, All-from_get_or}
use Rattle.r10_count.specs.Checks.{first_broken}
use Rattle.r10_medium.specs.Disk.{Disk, Image, IsSynced, IsWhole}
use Rattle.r10_medium.specs.PowerLoss.{ComesBy, Leaves, Settled}
use Rattle.r10_medium.proofs.PowerLoss.{one_image, settled_reads, weakened, whole_left, whole_reads}
use Rattle.r10_blockout.specs.Blocks.{bytes_from}
use Rattle.r10_packetout.specs.Carries.{Recording}
use Rattle.r10_dirblock.specs.declared.entry.Entry.{Entry as DirectoryEntry}
use Rattle.r10_dirchain.specs.Chain.{IsDirectory, at, blank_block, listed_files}
use Rattle.r10_dirchain.specs.Mount.{mount_rules}
use Rattle.r10_dirchain.specs.OnMedium.{IsWrittenByteForByte, SameButIn, Turned, Turns}
use Rattle.r10_dirchain.specs.Steps.{added, last_block, last_is_full, next_number, spare}
use Rattle.r10_dirchain.specs.declared.chain.ChainBlock.{ChainBlock}
use Rattle.r10_dirchain.proofs.Directories.{still_directory}
use Rattle.r10_dirchain.proofs.RulesAsFacts.{usable_of}
use Rattle.r10_dirchain.proofs.Turning.{on_ok}
use Rattle.r10_dirchain.proofs.Unique.{one_directory}
use Rattle.r10_dirchain.proofs.Usable.{placed}
use Rattle.r10_volume.specs.Holding.{HoldsFiles}
use Rattle.r10_machine.specs.Checks.{is_sealed}
use Rattle.r10_machine.specs.Config.{Config}
use Rattle.r10_machine.specs.Machine.{File}
use Rattle.r10_machine.proofs.Said.{directory_turns}
use Rattle.r10_machine.specs.EventChecks.{most_files}
use Rattle.r10_machine.specs.Says.{Lists, MediumSays, SaysEach}
use Rattle.r10_openfile.specs.Begun.{IsBegun}
use Rattle.r10_openfile.proofs.BehindAll.{held_mounts}
use Rattle.r10_openfile.proofs.Listing.{begun_bytes, begun_holds, begun_says, reserved}

-- ---- a block that nothing links to yet

-- it is none of the directory's
spare_apart : (reserved blocks : ℕ) (chain : List ChainBlock) → first_broken (mount_rules reserved blocks chain) ≡ None → (i : ℕ) → i < length chain → All (λ (n : ℕ). (at chain i).number ≢ n) (spare chain)
spare_apart reserved blocks chain mounts i lt = by (last_is_full chain)
  where
    by : (b : Bool) → All (λ (n : ℕ). (at chain i).number ≢ n) (if b then next_number chain ∷ [] else [])
    by false = All-nil (λ (n : ℕ). (at chain i).number ≢ n)
    by true =
        let place = placed reserved 1 chain (usable_of reserved blocks chain mounts).placed i lt in
        All-cons (λ (n : ℕ). (at chain i).number ≢ n) (next_number chain) [] (λ is. omega (arith, is, place.0, lt)) (All-nil (λ (n : ℕ). (at chain i).number ≢ n))

-- the medium says what it stated, by the same directory
unlinked_says : (s : Config) (old new : Image) (chain : List ChainBlock) (files : List File) → IsWhole old → MediumSays s old files → IsDirectory old chain → All (λ (n : ℕ). n ≤ s.directory) (spare chain) → SameButIn (spare chain) old new
    → MediumSays s new files
unlinked_says s old new chain files whole says there reserved same =
    let mounts = held_mounts s old chain files says there in
    let apart = spare_apart s.directory s.blocks chain mounts in
    directory_turns s old new chain (spare chain) files whole says.blocks
    (record {
      directory = still_directory old new chain (spare chain) there same apart;
      written = All-from_get_or (IsWrittenByteForByte (spare chain) new) chain blank_block (λ i lt. inl (apart i lt));
      others = same;
    })
    reserved mounts (subst (λ (c : List ChainBlock). SaysEach old (listed_files c) files) (one_directory old says.chain chain says.directory there) says.each)

-- ---- the directory's step

module _ {T E : Type 0} (s : Config) (chain : List ChainBlock) (files : List File) (r : Recording) (f : File) (e : DirectoryEntry) (mid new : Disk) (result : Result T E) (held : HoldsFiles s mid.blocks chain None files) (begun : IsBegun s mid.blocks files r f)
    (closed : is_sealed files ≡ true) (few : length files < most_files s) (lists : Lists f e) (turns : Turns chain (added e chain) (spare chain) ((last_block chain).number ∷ spare chain) mid new result) where
  abbrev changed : List ℕ
  changed = (last_block chain).number ∷ spare chain

  whole : IsWhole mid.blocks
  whole = whole_reads mid

  its : All (λ (n : ℕ). n ≤ s.directory) changed
  its = reserved s mid.blocks chain files r f e whole held begun closed few lists

  spare_reserved : All (λ (n : ℕ). n ≤ s.directory) (spare chain)
  spare_reserved = All-tail (λ (n : ℕ). n ≤ s.directory) (last_block chain).number (spare chain) its

  made : (image : Image) → Turned (added e chain) changed mid.blocks image → MediumSays s image (files ++ f ∷ [])
  made image turned = begun_says s mid.blocks chain files r f e whole held begun closed few lists image turned

  -- at every moment the files that there were, or those with this one, where a power loss left them before by the same directory
  pub begun_moments : Settled (λ image. MediumSays s image files × IsDirectory image chain) mid → Leaves (λ image. MediumSays s image files ⊎ MediumSays s image (files ++ f ∷ [])) mid new
  begun_moments settled =
      weakened (λ image. ComesBy (SameButIn (spare chain)) mid image ⊎ Turned (added e chain) changed mid.blocks image) (λ image. MediumSays s image files ⊎ MediumSays s image (files ++ f ∷ [])) mid new
      (λ image. ⊎_elim
      (λ from. let was = settled from.0 from.1 in inl (unlinked_says s from.0 image chain files (whole_left mid from.0 from.1) was.0 was.1 spare_reserved from.2))
      (λ turned. inr (made image turned)))
      turns.moments

  -- the same of what is read then, whether it failed or not
  pub begun_reads : MediumSays s new.blocks files ⊎ MediumSays s new.blocks (files ++ f ∷ [])
  begun_reads = ⊎_elim
      (λ turned. inl (unlinked_says s mid.blocks new.blocks chain files whole held.says held.directory spare_reserved turned.others))
      (λ turned. inr (made new.blocks turned))
      turns.reads

  pub begun_held : OnOk result (HoldsFiles s new.blocks (added e chain) (Some (record { recording = r; shown = length r.out.entries })) (files ++ f ∷ []))
  begun_held =
      let turned : Image → Type 0 = Turned (added e chain) changed mid.blocks in
      on_ok result (Settled turned new) (HoldsFiles s new.blocks (added e chain) (Some (record { recording = r; shown = length r.out.entries })) (files ++ f ∷ []))
      (λ settled. begun_holds s mid.blocks chain files r f e whole held begun closed few lists new.blocks (settled_reads turned new settled)) turns.settled

  -- a power loss then leaves them with the file's bytes that are read, by the new directory
  pub begun_settled : OnOk result (Settled (λ image. MediumSays s image (files ++ f ∷ []) × (bytes_from image f.first_block f.size ≡ bytes_from new.blocks f.first_block f.size) × IsDirectory image (added e chain)) new)
  begun_settled =
      let turned : Image → Type 0 = Turned (added e chain) changed mid.blocks in
      let bytes : (image : Image) → turned image → bytes_from image f.first_block f.size ≡ bytes_from mid.blocks f.first_block f.size = λ image is. begun_bytes s mid.blocks chain files r f e whole held begun closed few lists image f.size is in
      on_ok result (Settled turned new) (Settled (λ image. MediumSays s image (files ++ f ∷ []) × (bytes_from image f.first_block f.size ≡ bytes_from new.blocks f.first_block f.size) × IsDirectory image (added e chain)) new)
      (λ settled image now. (made image (settled image now), bytes image (settled image now) ∙ sym (bytes new.blocks (settled_reads turned new settled)), (settled image now).directory)) turns.settled

-- of a medium that was synced, a power loss leaves what is read
pub sure_says : (s : Config) (disk : Disk) (chain : List ChainBlock) (files : List File) → IsSynced disk → HoldsFiles s disk.blocks chain None files → Settled (λ image. MediumSays s image files × IsDirectory image chain) disk
sure_says s disk chain files synced held image now = subst (λ (l : Image). MediumSays s l files × IsDirectory l chain) (sym (one_image disk synced image now)) (held.says, held.directory)
