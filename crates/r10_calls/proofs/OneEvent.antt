-- One event and its reply.
use Rattle.std.proofs.Common.{◌≡◌, inr, refl, ap, ◌∙◌}
use Rattle.r10_body.specs.declared.refusal.Refusal.TheVariants.{OutOfMemory}
use Rattle.r10_calls.specs.EventCalls.{DoesEvent}
use Rattle.r10_machine.specs.declared.event.Event.{Event as EventValue}
use Rattle.r10_machine.specs.declared.reply.Reply.{Reply as ReplyValue}
use Rattle.r10_machine.specs.declared.reply.Reply.TheVariants.{Refused}
use Rattle.r10_medium.specs.Disk.{Disk}
use Rattle.r10_world.specs.State.{WorldState, with_medium}
use Rattle.r10_calls.specs.declared.desk.Desk.{Desk as DeskValue}

-- where memory was refused before the event was given
pub refused : {M : Type 0} (disk : M → Disk) (old : DeskValue M) (event : EventValue) (tells : ReplyValue → Type 0) → tells (Refused OutOfMemory) → DoesEvent disk old event tells old
refused disk old event tells says = record { reply = Refused OutOfMemory; reported = inr (refl, refl); says = says; config = refl; fault = refl; hand = refl }

-- a world whose medium was taken out and put in again
pub put_back : {M : Type 0} (world lifted result : WorldState M) (medium : M) → result ≡ with_medium medium lifted → lifted ≡ world → medium ≡ world.recorder.medium → result ≡ world
put_back {M} world lifted result medium is same stays =
    is ∙ ap (λ (m : M). with_medium m lifted) stays ∙ ap (λ (w : WorldState M). with_medium world.recorder.medium w) same
