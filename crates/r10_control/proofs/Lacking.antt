-- Steps that are refused because room is lacking.
use Rattle.std.proofs.Common.{◌≡◌, ◌≤◌, ℕ, false, None, refl, ◌∙◌}
use Rattle.r10_body.specs.declared.refusal.Refusal.TheVariants.{MediumFull}
use Rattle.r10_machine.specs.Config.{Config}
use Rattle.r10_machine.specs.Limits.{IsConfig}
use Rattle.r10_machine.specs.Machine.{Machine}
use Rattle.r10_refinement.specs.KeptState.{Kept}
use Rattle.r10_refinement.specs.Means.{KeptStandsFor}
use Rattle.r10_refinement.proofs.Leading.{StepsStaySound, failing}
use Rattle.r10_medium.specs.Disk.{Image}
use Rattle.r10_control.specs.Leading.{KeptStepsTaking, none_taken}
use Rattle.r10_machine.specs.EventChecks.{refusal}
use Rattle.r10_machine.specs.Step.{has_room}
use Rattle.r10_machine.specs.declared.event.Event.{Event as EventValue}
use Rattle.r10_machine.specs.declared.event.Event.TheVariants.{Mount, Dismount, Tick, Start, Offer, Lose, Pump, Event, Commit, Stop, Seal, Erase, Files, Status, Cursor, Advance, Next, Close, Find, CountAt}
use Rattle.r10_machine.specs.declared.reply.Reply.TheVariants as replies
use Rattle.r10_control.proofs.Seals.{lack_leads as gives_up}

-- ---- failures that are counted change no room

same_room : (s : Config) (m : Machine) (n : ℕ) (event : EventValue) → has_room s (failing n m) event ≡ has_room s m event
same_room s m n Mount = refl
same_room s m n Dismount = refl
same_room s m n (Tick count parts) = refl
same_room s m n (Start name setup) = refl
same_room s m n (Offer channel count message) = refl
same_room s m n (Lose channel lost) = refl
same_room s m n (Pump channel most) = refl
same_room s m n (Event number count) = refl
same_room s m n Commit = refl
same_room s m n Stop = refl
same_room s m n Seal = refl
same_room s m n Erase = refl
same_room s m n Files = refl
same_room s m n Status = refl
same_room s m n (Cursor file channels from to) = refl
same_room s m n (Advance id) = refl
same_room s m n (Next id) = refl
same_room s m n (Close id) = refl
same_room s m n (Find file channel count) = refl
same_room s m n (CountAt file parts) = refl

-- ---- the steps

-- the medium has no room for what the call puts there
pub medium_full_leads : StepsStaySound → (k : Kept) (old new : Image) (before now : ℕ) (m : Machine) (event : EventValue) → IsConfig k.config → KeptStandsFor k old before m → new ≡ old → before ≤ now
    → refusal k.config m event ≡ None → has_room k.config m event ≡ false → KeptStepsTaking none_taken k m event (replies.Refused MediumFull) k new now
medium_full_leads law k old new before now m event limits means same more fine lacks =
    gives_up law k old new before now m event MediumFull limits means same more fine (same_room k.config m now event ∙ lacks, refl)
