-- What a medium with one failing call is made of, and how it goes from call to call.
use Rattle.std.specs.Prelude.{◌≡◌, ◌≢◌, ℕ, Bool, true, ◌-◌, Result, IsErr}
use Rattle.r10_medium.specs.Disk.{Disk, Counts}
use Rattle.r10_medium.specs.Faulty.{faulty}
use Rattle.r10_medium.specs.declared.medium.BlockMedium.{Ghosts}
use Rattle.r10_medium.specs.declared.faulty.Faulty.{Faulty}

abbrev pub medium_in : {M : Type 0} {G : Ghosts M} → Faulty M G → M
medium_in f = f.medium

-- counted from the next one as 1; 0 where no call fails any more
abbrev pub call_that_fails : {M : Type 0} {G : Ghosts M} → Faulty M G → ℕ
call_that_fails f = f.left

abbrev pub has_failed : {M : Type 0} {G : Ghosts M} → Faulty M G → Bool
has_failed f = f.failed

abbrev pub disk_in : {M : Type 0} {G : Ghosts M} → Faulty M G → Disk
disk_in {G = G} f = G.disk f.medium

abbrev pub faulty_disk : {M : Type 0} {G : Ghosts M} → Faulty M G → Disk
faulty_disk f = faulty (disk_in f) (has_failed f)

-- A call. Each one counts. The one that is due fails, and does nothing to the medium; every other one is the medium's own.
pub record CallsFaulty {M T E : Type 0} {G : Ghosts M} (old new : Faulty M G) (result : Result T E) : Type 0 where
  pub counted : call_that_fails new ≡ call_that_fails old - 1
  pub due : call_that_fails old ≡ 1 → IsErr result × (medium_in new ≡ medium_in old) × (has_failed new ≡ true)
  pub others : call_that_fails old ≢ 1 → Counts (disk_in old) (disk_in new) result × (has_failed new ≡ has_failed old)
