-- What a refused call leaves, and when each refusal comes that is none of a call's checks.
use Rattle.std.specs.Prelude.{◌≡◌, ℕ, Option, None, Some}
use Rattle.r10_body.specs.declared.refusal.Refusal.{Refusal}
use Rattle.r10_body.specs.declared.refusal.Refusal.TheVariants.{BadDirectory, Medium, OutOfMemory}
use Rattle.r10_refinement.specs.KeptState.{Kept, Work, unmounted, idle, recording, failed}
use Rattle.r10_medium.specs.Disk.{Disk, Rose, Unchanged}
use Rattle.r10_mux.specs.Writes.{IsSame}
use Rattle.r10_volume.specs.Mounting.{IsUnusable}

-- the first check that doesn't hold, which leaves all; else what is lacking, which leaves what is kept, and of the medium what is
-- read and what a power loss leaves; or the medium failed, and the recorder with it
abbrev pub RefusesCall : {M : Type 0} → (M → Disk) → Option Refusal → (Refusal → Type 0) → Kept → Kept → M → M → Refusal → Type 0
RefusesCall disk (Some first) lacks old new medium medium' r = (r ≡ first) × (new ≡ old) × (medium' ≡ medium)
RefusesCall disk None lacks old new medium medium' Medium = Rose (disk medium).failures (disk medium').failures
    × (new ≡ record old { work = failed })
RefusesCall disk None lacks old new medium medium' OutOfMemory = Unchanged (disk medium) (disk medium') × (new ≡ old)
RefusesCall disk None lacks old new medium medium' r = lacks r × Unchanged (disk medium) (disk medium') × (new ≡ old)

-- nothing is lacking
abbrev pub nothing_lacks : Refusal → Type 0
nothing_lacks r = ⊥

-- a mount is refused because of the first block of the directory that can't be used
abbrev pub IsMountRefusal : ℕ → Disk → Refusal → Type 0
IsMountRefusal reserved disk (BadDirectory n) = IsUnusable reserved disk.blocks n
IsMountRefusal reserved disk r = ⊥

-- ---- of a call that asks for memory in the file that is recorded

-- the same, but for the memory of the file that is recorded
abbrev pub IsSameWork : Work → Work → Type 0
IsSameWork (recording chain o) (recording made p) = (made ≡ chain) × IsSame o.recording p.recording × (p.shown ≡ o.shown)
IsSameWork old new = new ≡ old

abbrev pub IsSameKept : Kept → Kept → Type 0
IsSameKept old new = (new ≡ record old { work = new.work }) × IsSameWork old.work new.work

-- the first check that doesn't hold, which leaves all; else there is a cause, and what is kept and the medium stay, where memory
-- is refused but for that of the file; or the medium failed, and the recorder with it
abbrev pub RefusesOpen : {M : Type 0} → (M → Disk) → Option Refusal → (Refusal → Type 0) → Kept → Kept → M → M → Refusal → Type 0
RefusesOpen disk (Some first) cause old new medium medium' r = (r ≡ first) × (new ≡ old) × (medium' ≡ medium)
RefusesOpen disk None cause old new medium medium' Medium = cause Medium × Rose (disk medium).failures (disk medium').failures
    × (new ≡ record old { work = failed })
RefusesOpen disk None cause old new medium medium' OutOfMemory = cause OutOfMemory × IsSameKept old new × (medium' ≡ medium)
RefusesOpen disk None cause old new medium medium' r = cause r × (new ≡ old) × (medium' ≡ medium)
