-- What one event that is given to a recorder and its readers comes to.
use Rattle.std.specs.Prelude.{◌≡◌, ◌⊎◌, ℕ, Bool, true, false, [], ◌∷◌}
use Rattle.r10_body.specs.Refusals.{refusal_number}
use Rattle.r10_body.specs.declared.refusal.Refusal.TheVariants as refusals
use Rattle.r10_medium.specs.Disk.{Disk}
use Rattle.r10_region.specs.Identity.{Identity}
use Rattle.r10_machine.specs.declared.event.Event.{Event as EventValue}
use Rattle.r10_machine.specs.declared.event.Event.TheVariants as events
use Rattle.r10_machine.specs.declared.reply.Reply.{Reply as ReplyValue}
use Rattle.r10_machine.specs.declared.reply.Reply.TheVariants.{Done, Moved, Stopped, Files, Status, Cursor, Advanced, Next, Found}
use Rattle.r10_machine.specs.declared.reply.Reply.TheVariants.{CountAt, Refused}
use Rattle.r10_calls.specs.Faults.{fault_in}
use Rattle.r10_calls.specs.declared.desk.Desk.{Desk as DeskValue}
use Rattle.r10_world.specs.Answering.{AnswersEach}
use Rattle.r10_world.specs.State.{WorldState, with_medium}
use Rattle.r10_world.specs.PowerLoss.{RunsSafely}
use Rattle.r10_world.specs.WorldSteps.{WorldRuns}

-- From each machine for which the world stands, the event and its reply are a step to one for which it stands then; and where the
-- machine's files were safe, a power loss at any moment of it left the files from before it or those that it makes of them.
pub record StepsToReply {M : Type 0} (disk : M → Disk) (old : WorldState M) (event : EventValue) (reply : ReplyValue)
    (new : WorldState M) : Type 0 where
  pub runs : WorldRuns disk old (event ∷ []) (reply ∷ []) new
  pub safely : RunsSafely disk old (event ∷ []) (reply ∷ []) new
  pub answers : AnswersEach disk old (event ∷ []) (reply ∷ []) new

-- Where memory was refused before it was done, nothing changed.
abbrev pub Told : {M : Type 0} → (M → Disk) → WorldState M → EventValue → ReplyValue → WorldState M → Type 0
Told disk old event reply new = StepsToReply disk old event reply new ⊎ ((reply ≡ Refused refusals.OutOfMemory) × (new ≡ old))

-- An event was given, and of its reply this is so. What a refusal carries is kept, and the entry in hand stays.
pub record DoesEvent {M : Type 0} (disk : M → Disk) (old : DeskValue M) (event : EventValue) (tells : ReplyValue → Type 0)
    (new : DeskValue M) : Type 0 where
  pub reply : ReplyValue
  pub reported : Told disk old.world event reply new.world
  pub says : tells reply
  pub config : new.world.recorder.kept.config ≡ old.world.recorder.kept.config
  pub fault : new.fault ≡ fault_in reply old.fault
  pub hand : new.hand ≡ old.hand

-- it leaves the medium itself, whatever it is answered
abbrev pub leaves_medium : EventValue → Bool
leaves_medium (events.Offer channel count message) = true
leaves_medium (events.Lose channel lost) = true
leaves_medium (events.Next id) = true
leaves_medium (events.Close id) = true
leaves_medium events.Files = true
leaves_medium events.Status = true
leaves_medium event = false

-- its medium is the one that it was
abbrev pub KeepsMedium : {M : Type 0} → (M → Identity) → DeskValue M → DeskValue M → Type 0
KeepsMedium identity old new = identity new.world.recorder.medium ≡ identity old.world.recorder.medium

-- An onlooker looked at the medium, and of what it looked at and what that is then this is so. All else is as it was, and the
-- medium is the same one.
pub record ShowsMedium {M : Type 0} (identity : M → Identity) (looked : M → M → Type 0) (old new : WorldState M) : Type 0 where
  pub medium : M
  pub same : new ≡ with_medium medium old
  pub looks : looked old.recorder.medium medium
  pub stays : identity medium ≡ identity old.recorder.medium

-- ---- numbers

-- the number of a reply: that of its refusal, or 0
abbrev pub reply_number : ReplyValue → ℕ
reply_number Done = 0
reply_number (Moved n) = 0
reply_number (Stopped s) = 0
reply_number (Files fs) = 0
reply_number (Status s) = 0
reply_number (Cursor id) = 0
reply_number (Advanced n) = 0
reply_number (Next e) = 0
reply_number (Found f) = 0
reply_number (CountAt c) = 0
reply_number (Refused r) = refusal_number r
