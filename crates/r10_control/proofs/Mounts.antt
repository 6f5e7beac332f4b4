-- A mount, as a step of the machine.
use Rattle.std.proofs.Common.{◌≡◌, ◌≤◌, ℕ, true, List, length, Option, Some, None, refl, sym, ap, ◌∙◌, subst, arith}
use Rattle.r10_body.specs.declared.refusal.Refusal.{Refusal}
use Rattle.r10_body.specs.declared.refusal.Refusal.TheVariants.{Medium, OutOfMemory}
use Rattle.std.specs.Option.{option_or}
use Rattle.r10_count.specs.Checks.{first_broken}
use Rattle.r10_dirchain.specs.Chain.{listed_files}
use Rattle.r10_dirchain.specs.declared.chain.ChainBlock.{ChainBlock}
use Rattle.r10_volume.specs.Holding.{HoldsFiles, OthersAreFound}
use Rattle.r10_machine.specs.Checks.{unmounted_checks}
use Rattle.r10_machine.specs.Limits.{IsConfig}
use Rattle.r10_machine.specs.Machine.{Machine}
use Rattle.r10_machine.specs.declared.mode.Mode.{Mode}
use Rattle.r10_machine.specs.declared.mode.Mode.TheVariants as modes
use Rattle.r10_refinement.specs.KeptState.{Kept, Work, mode_of, unmounted, idle, recording, failed}
use Rattle.r10_refinement.specs.Means.{HasFiles, KeptStandsFor}
use Rattle.r10_refinement.proofs.Leading.{StepsStaySound, mounted}
use Rattle.r10_medium.specs.Disk.{Image, Rose}
use Rattle.r10_cursor.proofs.Sizes.{none_shrinks}
use Rattle.r10_control.specs.Leading.{KeptStepsTaking, none_taken}
use Rattle.r10_control.proofs.Leading.{failed_leads, memory_leads, none_left, refused_leads}
use Rattle.r10_machine.specs.EventChecks.{refusal}
use Rattle.r10_machine.specs.Says.{MediumSays}
use Rattle.r10_machine.specs.declared.event.Event.TheVariants.{Mount}
use Rattle.r10_machine.specs.declared.reply.Reply.TheVariants as replies

-- nothing is mounted
pub unmounted_work : (w : Work) → first_broken (unmounted_checks (mode_of w)) ≡ None → w ≡ unmounted
unmounted_work unmounted fine = refl
unmounted_work (idle chain) fine = absurd (cc)
unmounted_work (recording chain o) fine = absurd (cc)
unmounted_work failed fine = absurd (cc)

-- the machine checks the same
pub same_check : (k : Kept) (image : Image) (n : ℕ) (m : Machine) → KeptStandsFor k image n m → refusal k.config m Mount ≡ first_broken (unmounted_checks (mode_of k.work))
same_check k image n m means = ap (λ mode. first_broken (unmounted_checks mode)) means.mode

-- what the medium says of files that are not in use
pub said : (k : Kept) (w : Work) (image : Image) (m : Machine) → k.work ≡ w → w ≡ unmounted → HasFiles k.config k.work image m.files → MediumSays k.config image m.files × OthersAreFound image m.files
said k w image m at is files = subst (λ (x : Work). HasFiles k.config x image m.files) (at ∙ is) files

pub mount_refused : StepsStaySound → (k : Kept) (image : Image) (n : ℕ) (m : Machine) (r : Refusal) → IsConfig k.config → KeptStandsFor k image n m → first_broken (unmounted_checks (mode_of k.work)) ≡ Some r
    → KeptStepsTaking none_taken k m Mount (replies.Refused r) k image n
mount_refused law k image n m r limits means is = refused_leads law k image n m Mount r limits means (same_check k image n m means ∙ is) (λ x. refl)

pub mount_done : StepsStaySound → (k : Kept) (old new : Image) (before now : ℕ) (m : Machine) (chain : List ChainBlock) → IsConfig k.config → KeptStandsFor k old before m → first_broken (unmounted_checks (mode_of k.work)) ≡ None
    → HoldsFiles k.config new chain None m.files → before ≤ now → KeptStepsTaking none_taken k m Mount replies.Done (record k { work = idle chain; found = option_or k.found (Some (length (listed_files chain))) }) new now
mount_done law k old new before now m chain limits means fine holds more = record {
  machine = record m { mode = modes.Idle; failures = now };
  led = mounted law k old new before now m chain limits means (unmounted_work k.work fine) holds more;
  lanes = none_left m.lanes;
  cursors = refl;
  sizes = λ again. none_shrinks m.files;
}

pub mount_lacks : StepsStaySound → (k : Kept) (old new : Image) (before now : ℕ) (m : Machine) → IsConfig k.config → KeptStandsFor k old before m → first_broken (unmounted_checks (mode_of k.work)) ≡ None → new ≡ old → before ≤ now
    → KeptStepsTaking none_taken k m Mount (replies.Refused OutOfMemory) k new now
mount_lacks law k old new before now m limits means fine same more = memory_leads law k old new before now m Mount limits means same more (same_check k old before m means ∙ fine) refl refl

pub mount_fails : StepsStaySound → (k : Kept) (old new : Image) (before now : ℕ) (m : Machine) → IsConfig k.config → KeptStandsFor k old before m → first_broken (unmounted_checks (mode_of k.work)) ≡ None → before ≤ now → Rose before now
    → MediumSays k.config new m.files → KeptStepsTaking none_taken k m Mount (replies.Refused Medium) (record k { work = failed }) new now
mount_fails law k old new before now m limits means fine more rose says = failed_leads law k old new before now m Mount limits means more rose (same_check k old before m means ∙ fine) refl refl says
