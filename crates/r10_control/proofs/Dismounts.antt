-- A dismount, as a step of the machine.
use Rattle.std.proofs.Common.{◌≡◌, ◌≤◌, ℕ, List, Option, Some, None, Err, refl, sym, ap, ◌∙◌, subst}
use Rattle.std.specs.Prelude.{IsErrOf}
use Rattle.r10_body.specs.declared.refusal.Refusal.{Refusal}
use Rattle.r10_body.specs.declared.refusal.Refusal.TheVariants.{Medium, OutOfMemory}
use Rattle.r10_count.specs.Checks.{first_broken}
use Rattle.r10_dirchain.specs.declared.chain.ChainBlock.{ChainBlock}
use Rattle.r10_volume.specs.Holding.{HoldsFiles, OthersAreFound}
use Rattle.r10_machine.specs.Checks.{idle_checks}
use Rattle.r10_machine.specs.Limits.{IsConfig}
use Rattle.r10_machine.specs.Machine.{Machine}
use Rattle.r10_machine.specs.declared.mode.Mode.{Mode}
use Rattle.r10_machine.specs.declared.mode.Mode.TheVariants as modes
use Rattle.r10_refinement.specs.KeptState.{Kept, Work, mode_of, unmounted, idle, failed}
use Rattle.r10_refinement.specs.Means.{HasFiles, KeptStandsFor}
use Rattle.r10_refinement.proofs.Leading.{StepsStaySound, dismounted}
use Rattle.r10_medium.specs.Disk.{Image, Rose}
use Rattle.r10_cursor.proofs.Sizes.{none_shrinks}
use Rattle.r10_control.specs.Leading.{KeptStepsTaking, none_taken}
use Rattle.r10_control.proofs.Leading.{failed_leads, none_left, refused_leads}
use Rattle.r10_machine.specs.EventChecks.{refusal}
use Rattle.r10_machine.specs.Says.{MediumSays}
use Rattle.r10_machine.specs.declared.event.Event.TheVariants.{Dismount}
use Rattle.r10_machine.specs.declared.reply.Reply.TheVariants as replies

same_check : (k : Kept) (image : Image) (n : ℕ) (m : Machine) → KeptStandsFor k image n m → refusal k.config m Dismount ≡ first_broken (idle_checks (mode_of k.work))
same_check k image n m means = ap (λ mode. first_broken (idle_checks mode)) means.mode

-- whether it may be done is answered without memory
none_for : (mode : Mode) → first_broken (idle_checks mode) ≡ Some OutOfMemory → ⊥
none_for modes.Unmounted is = cc
none_for modes.Idle is = cc
none_for modes.Recording is = cc
none_for modes.Failed is = cc

pub asks_none : {T : Type 0} (mode : Mode) (r : Refusal) → first_broken (idle_checks mode) ≡ Some r → IsErrOf {T = T} (Err r) OutOfMemory → ⊥
asks_none mode r is same =
    let at : first_broken (idle_checks mode) ≡ Some OutOfMemory = cc in
    none_for mode at

-- the files of a directory in use
pub held : (k : Kept) (chain : List ChainBlock) (image : Image) (m : Machine) → k.work ≡ idle chain → HasFiles k.config k.work image m.files → HoldsFiles k.config image chain None m.files
held k chain image m is files = subst (λ (x : Work). HasFiles k.config x image m.files) is files

pub dismount_refused : StepsStaySound → (k : Kept) (image : Image) (n : ℕ) (m : Machine) (r : Refusal) → IsConfig k.config → KeptStandsFor k image n m → first_broken (idle_checks (mode_of k.work)) ≡ Some r
    → KeptStepsTaking none_taken k m Dismount (replies.Refused r) k image n
dismount_refused law k image n m r limits means is = refused_leads law k image n m Dismount r limits means (same_check k image n m means ∙ is) (λ x. refl)

pub dismount_done : StepsStaySound → (k : Kept) (old new : Image) (before now : ℕ) (m : Machine) (chain : List ChainBlock) → IsConfig k.config → KeptStandsFor k old before m → k.work ≡ idle chain
    → MediumSays k.config new m.files → OthersAreFound new m.files → before ≤ now → KeptStepsTaking none_taken k m Dismount replies.Done (record k { work = unmounted }) new now
dismount_done law k old new before now m chain limits means at says found more = record {
  machine = record m { mode = modes.Unmounted; failures = now };
  led = dismounted law k old new before now m chain limits means at says found more;
  lanes = none_left m.lanes;
  cursors = refl;
  sizes = λ again. none_shrinks m.files;
}

pub dismount_fails : StepsStaySound → (k : Kept) (old new : Image) (before now : ℕ) (m : Machine) → IsConfig k.config → KeptStandsFor k old before m → first_broken (idle_checks (mode_of k.work)) ≡ None → before ≤ now → Rose before now
    → MediumSays k.config new m.files → KeptStepsTaking none_taken k m Dismount (replies.Refused Medium) (record k { work = failed }) new now
dismount_fails law k old new before now m limits means fine more rose says = failed_leads law k old new before now m Dismount limits means more rose (same_check k old before m means ∙ fine) refl refl says
