-- What a power loss leaves between two calls, carried over a call.
use Rattle.std.proofs.Common.{◌≡◌, inl, inr, List, [], ◌∷◌, map, None, Option, Some, refl, sym, ap, ◌∙◌, subst}
use Rattle.std.specs.Prelude.{IfSome}
use Rattle.std.specs.List.{last_or}
use Rattle.r10_blockout.specs.Blocks.{bytes_from}
use Rattle.r10_machine.specs.Config.{Config}
use Rattle.r10_machine.specs.Machine.{File}
use Rattle.r10_machine.specs.Needs.{shown_part}
use Rattle.r10_machine.specs.Says.{MediumSays}
use Rattle.r10_refinement.specs.KeptState.{Work, mode_of, unmounted, idle, recording, failed}
use Rattle.r10_medium.proofs.PowerLoss.{one_image, reads_now, settled_now, settled_stays}
use Rattle.r10_medium.specs.Disk.{Disk, Image, IsSynced, Unchanged, block_at}
use Rattle.r10_medium.specs.PowerLoss.{Leaves, Settled}
use Rattle.r10_refinement.proofs.Finding.{parts_said}
use Rattle.r10_refinement.specs.Safe.{IsSafe, IsSafeOrFailed, SaysLast}

own_bytes : (files : List File) (image : Image) → IfSome (last_or None files) (λ (f : File). bytes_from image f.first_block f.size ≡ bytes_from image f.first_block f.size)
own_bytes files image = by (last_or None files)
  where
    by : (x : Option File) → IfSome x (λ (f : File). bytes_from image f.first_block f.size ≡ bytes_from image f.first_block f.size)
    by None = tt
    by (Some f) = refl

-- what was synced is safe, whatever the recorder does
pub safe_synced : (s : Config) (work : Work) (files : List File) (disk : Disk) → IsSynced disk → MediumSays s disk.blocks files → IsSafeOrFailed s work files disk
safe_synced s unmounted files disk synced says = inr (λ image may. subst (λ (i : Image). MediumSays s i files) (sym (one_image disk synced image may)) says)
safe_synced s (idle chain) files disk synced says = inr (synced, says)
safe_synced s (recording chain o) files disk synced says =
    inr (λ image may. subst (SaysLast s files disk.blocks) (sym (one_image disk synced image may)) (record { says = says; bytes = own_bytes files disk.blocks }))
safe_synced s failed files disk synced says = inl refl

synced_stays : (old new : Disk) → Unchanged old new → IsSynced old → IsSynced new
synced_stays old new same synced k c may = synced k c (same.may_hold k c may) ∙ ap (λ (i : Image). block_at i k) (sym same.reads)

-- where nothing changes on the medium, and the recorder does the same
pub safe_unchanged : (s : Config) (work later : Work) (files : List File) (old new : Disk) → Unchanged old new → mode_of later ≡ mode_of work → IsSafe s work files old → IsSafe s later files new
safe_unchanged s unmounted unmounted files old new same alike safe = settled_stays (λ image. MediumSays s image files) old new same safe
safe_unchanged s (idle chain) (idle made) files old new same alike (synced, says) = (synced_stays old new same synced, subst (λ (i : Image). MediumSays s i files) (sym same.reads) says)
safe_unchanged s (recording chain o) (recording made p) files old new same alike safe =
    subst (λ (reads : Image). Settled (SaysLast s files reads) new) (sym same.reads) (settled_stays (SaysLast s files old.blocks) old new same safe)
safe_unchanged s unmounted (idle made) files old new same alike safe = cc
safe_unchanged s unmounted (recording made p) files old new same alike safe = cc
safe_unchanged s unmounted failed files old new same alike safe = cc
safe_unchanged s (idle chain) unmounted files old new same alike safe = cc
safe_unchanged s (idle chain) (recording made p) files old new same alike safe = cc
safe_unchanged s (idle chain) failed files old new same alike safe = cc
safe_unchanged s (recording chain o) unmounted files old new same alike safe = cc
safe_unchanged s (recording chain o) (idle made) files old new same alike safe = cc
safe_unchanged s (recording chain o) failed files old new same alike safe = cc
safe_unchanged s failed later files old new same alike safe = absurd safe

abbrev SaysAt : List File → Image → Image → Type 0
SaysAt files shown image = IfSome (last_or None files) (λ (f : File). bytes_from image f.first_block f.size ≡ bytes_from shown f.first_block f.size)

swapped : (files : List File) (old new image : Image) → SaysAt files old new → SaysAt files old image → SaysAt files new image
swapped files old new image reads keeps = by (last_or None files) reads keeps
  where
    by : (x : Option File) → IfSome x (λ (f : File). bytes_from new f.first_block f.size ≡ bytes_from old f.first_block f.size) → IfSome x (λ (f : File). bytes_from image f.first_block f.size ≡ bytes_from old f.first_block f.size)
        → IfSome x (λ (f : File). bytes_from image f.first_block f.size ≡ bytes_from new f.first_block f.size)
    by None reads keeps = tt
    by (Some f) reads keeps = keeps ∙ sym reads

-- where a call leaves, at every moment, what was shown
pub safe_shown : (s : Config) (files : List File) (old new : Disk) → Leaves (SaysLast s files old.blocks) old new → Settled (SaysLast s files new.blocks) new
safe_shown s files old new leaves image may =
    let here = settled_now (SaysLast s files old.blocks) old new leaves in
    let reads = here new.blocks (reads_now new) in
    let it = here image may in
    record { says = it.says; bytes = swapped files old.blocks new.blocks image reads.bytes it.bytes }

last_parts : (files others : List File) (shown image : Image) → map shown_part files ≡ map shown_part others → SaysAt files shown image → SaysAt others shown image
last_parts [] [] shown image same keeps = keeps
last_parts [] (g ∷ others) shown image same keeps = cc
last_parts (f ∷ files) [] shown image same keeps = cc
last_parts (f ∷ []) (g ∷ []) shown image same keeps = let part : shown_part f ≡ shown_part g = cc in subst (λ (p : File). bytes_from image p.first_block p.size ≡ bytes_from shown p.first_block p.size) part keeps
last_parts (f ∷ []) (g ∷ h ∷ others) shown image same keeps = cc
last_parts (f ∷ e ∷ files) (g ∷ []) shown image same keeps = cc
last_parts (f ∷ e ∷ files) (g ∷ h ∷ others) shown image same keeps = let rest : map shown_part (e ∷ files) ≡ map shown_part (h ∷ others) = cc in last_parts (e ∷ files) (h ∷ others) shown image rest keeps

-- files that show the same are as safe
pub safe_parts : (s : Config) (work : Work) (files others : List File) (disk : Disk) → map shown_part files ≡ map shown_part others → IsSafe s work files disk → IsSafe s work others disk
safe_parts s unmounted files others disk same safe = λ image may. parts_said s image files others same (safe image may)
safe_parts s (idle chain) files others disk same (synced, says) = (synced, parts_said s disk.blocks files others same says)
safe_parts s (recording chain o) files others disk same safe = λ image may.
    let was = safe image may in
    record { says = parts_said s image files others same was.says; bytes = last_parts files others disk.blocks image same was.bytes }
safe_parts s failed files others disk same safe = absurd safe

-- and a power loss leaves the files
pub safe_says : (s : Config) (work : Work) (files : List File) (disk : Disk) → IsSafe s work files disk → Settled (λ image. MediumSays s image files) disk
safe_says s unmounted files disk safe = safe
safe_says s (idle chain) files disk (synced, says) = λ image may. subst (λ (i : Image). MediumSays s i files) (sym (one_image disk synced image may)) says
safe_says s (recording chain o) files disk safe = λ image may. (safe image may).says
safe_says s failed files disk safe = absurd safe
