-- What a power loss leaves in the midst of a call, and of a run.
use Rattle.std.specs.Prelude.{◌≡◌, ◌⊎◌, ◌≤◌, ℕ, List, length, take, IsSomeAnd, Result, MatchResult, slice_get}
use Rattle.r10_body.specs.declared.refusal.Refusal.{Refusal}
use Rattle.r10_machine.specs.Config.{Config}
use Rattle.r10_machine.specs.Machine.{Machine}
use Rattle.r10_machine.specs.Says.{MediumSays}
use Rattle.r10_machine.specs.Step.{Run, Step}
use Rattle.r10_machine.specs.declared.event.Event.{Event as EventValue}
use Rattle.r10_machine.specs.declared.reply.Reply.{Reply as ReplyValue}
use Rattle.r10_machine.specs.declared.reply.Reply.TheVariants.{Refused}
use Rattle.r10_refinement.specs.KeptState.{Kept, failed}
use Rattle.r10_refinement.specs.Means.{KeptStepsTo, KeptStandsFor}
use Rattle.r10_medium.specs.Disk.{Disk, Image}
use Rattle.r10_medium.specs.PowerLoss.{Leaves}
use Rattle.r10_refinement.specs.Safe.{IsSafe}

-- ---- a call

-- the image says the files that the event makes of a machine's
pub record Makes (s : Config) (m : Machine) (event : EventValue) (image : Image) : Type 0 where
  pub reply : ReplyValue
  pub made : Machine
  pub step : Step s m event reply made
  pub says : MediumSays s image made.files

-- the image says a machine's files, or those that the event makes of them
abbrev pub IsEither : Config → Machine → EventValue → Image → Type 0
IsEither s m event image = MediumSays s image m.files ⊎ Makes s m event image

-- Of each machine that is represented, and of which this is known: where its files were safe before the call, a loss of power at
-- any moment of the call leaves these, or those that the event makes of them. After the call the files of each machine that the
-- reply leads to are safe again, unless the recorder failed.
pub record StaysSafe (known : Machine → Type 0) (k : Kept) (event : EventValue) (reply : ReplyValue) (old : Disk) (later : Kept)
    (new : Disk) : Type 0 where
  pub left : (m : Machine) → KeptStandsFor k old.blocks old.failures m → known m → IsSafe k.config k.work m.files old
      → Leaves (λ image. MediumSays k.config image m.files ⊎ Makes k.config m event image) old new
  pub behind : (m : Machine) (machine : Machine) → KeptStandsFor k old.blocks old.failures m → IsSafe k.config k.work m.files old
      → KeptStepsTo k m event reply later new.blocks new.failures machine
      → (later.work ≡ failed) ⊎ IsSafe later.config later.work machine.files new

-- any machine that is represented
abbrev pub whichever : Machine → Type 0
whichever m = Unit {0}

-- by what a call answers
abbrev pub AnswersSafely : {T : Type 0} → Kept → Disk → EventValue → (T → ReplyValue) → Result T Refusal → Kept → Disk → Type 0
AnswersSafely k old event reply result later new =
    MatchResult result (λ v. StaysSafe whichever k event (reply v) old later new)
    (λ r. StaysSafe whichever k event (Refused r) old later new)

-- ---- a run

-- Where a machine got these replies to these events: the image says the files that it comes to by some first events and their
-- replies, or those that one event more makes of them with any reply that it may have. Which events these are is left open, and may
-- be none at any moment of the run: nobody gets a reply before the run returns. What a power loss leaves after each single event is
-- stated by a run of that event alone, and by each call of a recorder (`StaysSafe`).
pub record IsLeft (s : Config) (m : Machine) (events : List EventValue) (given : List ReplyValue) (image : Image) : Type 0 where
  pub done : ℕ
  pub reported : done ≤ length events
  pub answered : done ≤ length given
  pub images : List Image
  pub at : Machine
  pub run : Run s m (take done events) (take done given) images at
  pub says : MediumSays s image at.files ⊎ IsSomeAnd (slice_get events done) (λ event. Makes s at event image)
