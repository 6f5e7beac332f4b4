-- Steps of a recorder that keeps its lanes and cursors as they are.
use Rattle.std.proofs.Common.{◌≡◌, ◌≤◌, ℕ, true, List, [], ◌∷◌, Option, Some, None, refl, sym, subst, arith}
use Rattle.r10_body.specs.declared.refusal.Refusal.{Refusal}
use Rattle.r10_body.specs.declared.refusal.Refusal.TheVariants.{BadDirectory, Medium, OutOfMemory}
use Rattle.r10_machine.specs.Limits.{IsConfig}
use Rattle.r10_machine.specs.Machine.{Lane, Machine}
use Rattle.r10_machine.specs.declared.mode.Mode.TheVariants as modes
use Rattle.r10_refinement.specs.KeptState.{Kept, failed}
use Rattle.r10_refinement.specs.Means.{KeptStandsFor}
use Rattle.r10_refinement.proofs.Leading.{StepsStaySound, failed_before, failed_so, lacks_memory, refused}
use Rattle.r10_medium.specs.Disk.{Disk, Image, Rose, Unchanged}
use Rattle.r10_cursor.proofs.Sizes.{none_shrinks}
use Rattle.r10_control.specs.Leading.{AreLeft, KeptStepsTaking, none_taken}
use Rattle.r10_control.specs.Refused.{RefusesCall}
use Rattle.r10_machine.specs.EventChecks.{refusal}
use Rattle.r10_machine.specs.Says.{MediumSays}
use Rattle.r10_machine.specs.Step.{after_refusal, asks_memory, entry_has_room, uses_medium}
use Rattle.r10_machine.specs.declared.event.Event.{Event as EventValue}
use Rattle.r10_machine.specs.declared.reply.Reply.TheVariants as replies
pub use Rattle.r10_openfile.proofs.Fitting.{still_there}

pub none_left : (lanes : List Lane) → AreLeft none_taken lanes lanes
none_left [] = tt
none_left (l ∷ lanes) = (refl, none_left lanes)

-- a check refuses, and all stays
pub refused_leads : StepsStaySound → (k : Kept) (old : Image) (before : ℕ) (m : Machine) (event : EventValue) (r : Refusal) → IsConfig k.config → KeptStandsFor k old before m
    → refusal k.config m event ≡ Some r → ((n : Machine) → after_refusal event n ≡ n) → KeptStepsTaking none_taken k m event (replies.Refused r) k old before
refused_leads law k old before m event r limits means is stays = record {
  machine = record m { failures = before };
  led = refused law k old old before before m event r limits means refl (omega arith) is stays;
  lanes = none_left m.lanes;
  cursors = refl;
  sizes = λ again. none_shrinks m.files;
}

-- memory is refused, and all stays
pub memory_leads : StepsStaySound → (k : Kept) (old new : Image) (before now : ℕ) (m : Machine) (event : EventValue) → IsConfig k.config → KeptStandsFor k old before m → new ≡ old → before ≤ now
    → refusal k.config m event ≡ None → asks_memory event ≡ true → entry_has_room k.config m event ≡ true → KeptStepsTaking none_taken k m event (replies.Refused OutOfMemory) k new now
memory_leads law k old new before now m event limits means same more fine asks room = record {
  machine = record m { failures = now };
  led = lacks_memory law k old new before now m event limits means same more fine asks room;
  lanes = none_left m.lanes;
  cursors = refl;
  sizes = λ again. none_shrinks m.files;
}

-- the medium fails, and says the files that it stated
pub failed_leads : StepsStaySound → (k : Kept) (old new : Image) (before now : ℕ) (m : Machine) (event : EventValue) → IsConfig k.config → KeptStandsFor k old before m → before ≤ now → Rose before now
    → refusal k.config m event ≡ None → uses_medium event ≡ true → entry_has_room k.config m event ≡ true → MediumSays k.config new m.files → KeptStepsTaking none_taken k m event (replies.Refused Medium) (record k { work = failed }) new now
failed_leads law k old new before now m event limits means more rose fine uses room says = record {
  machine = record m { mode = modes.Failed; failures = now };
  led = failed_so law k old new before now m (record m { mode = modes.Failed; failures = now }) event limits means more rose fine uses room
      (failed_before k.config (record m { failures = now }) event m.lanes (still_there event m.lanes)) means.tick refl says;
  lanes = none_left m.lanes;
  cursors = refl;
  sizes = λ again. none_shrinks m.files;
}

-- ---- what is refused

-- something is lacking, by a refusal of its own
pub lacking : {M : Type 0} (disk : M → Disk) (o : Option Refusal) (lacks : Refusal → Type 0) (old new : Kept) (medium medium' : M) (n : ℕ) → o ≡ None → lacks (BadDirectory n) → Unchanged (disk medium) (disk medium') → new ≡ old
    → RefusesCall disk o lacks old new medium medium' (BadDirectory n)
lacking disk o lacks old new medium medium' n fine is same kept = subst (λ p. RefusesCall disk p lacks old new medium medium' (BadDirectory n)) (sym fine) (is, same, kept)
