-- Calls that only tell, as steps of the machine.
use Rattle.std.proofs.Common.{◌≡◌, ◌≤◌, ℕ, List, map, Some, None, refl, sym, ap, ◌∙◌, subst, arith}
use Rattle.r10_body.specs.declared.refusal.Refusal.{Refusal}
use Rattle.r10_body.specs.declared.refusal.Refusal.TheVariants.{OutOfMemory}
use Rattle.r10_count.specs.Checks.{first_broken}
use Rattle.r10_machine.specs.Checks.{mounted_checks}
use Rattle.r10_machine.specs.Limits.{IsConfig}
use Rattle.r10_machine.specs.Machine.{Machine}
use Rattle.r10_refinement.specs.KeptState.{Kept, Work, mode_of, unmounted, idle, recording, failed}
use Rattle.r10_refinement.specs.Means.{HasFiles, KeptStepsTo, KeptStandsFor}
use Rattle.r10_refinement.proofs.Leading.{StepsStaySound}
use Rattle.r10_medium.specs.Disk.{Image}
use Rattle.r10_cursor.proofs.Sizes.{none_shrinks}
use Rattle.r10_control.specs.Checks.{files_of}
use Rattle.r10_control.specs.Leading.{KeptStepsTaking, none_taken}
use Rattle.r10_control.proofs.Leading.{memory_leads, none_left, refused_leads}
use Rattle.r10_machine.specs.EventChecks.{refusal}
use Rattle.r10_machine.specs.Finding.{info_of}
use Rattle.r10_machine.specs.declared.event.Event.TheVariants.{Files}
use Rattle.r10_machine.specs.declared.reply.FileInfo.{FileInfo}
use Rattle.r10_machine.specs.declared.reply.Reply.TheVariants as replies
use Rattle.r10_volume.specs.Listing.{info_in}
use Rattle.r10_volume.proofs.Listed.{infos_told}

-- telling the files is a step that changes nothing
abbrev pub FilesAreTold : Type 0
FilesAreTold = (k : Kept) (old new : Image) (n later : ℕ) (m : Machine) → IsConfig k.config → KeptStandsFor k old n m → new ≡ old → n ≤ later → refusal k.config m Files ≡ None
    → KeptStepsTo k m Files (replies.Files (map info_of m.files)) k new later (record m { failures = later })

same_check : (k : Kept) (image : Image) (n : ℕ) (m : Machine) → KeptStandsFor k image n m → refusal k.config m Files ≡ first_broken (mounted_checks (mode_of k.work))
same_check k image n m means = ap (λ mode. first_broken (mounted_checks mode)) means.mode

-- the directory in use lists the machine's files, and the one that is written among them
told_infos : (k : Kept) (w : Work) (image : Image) (m : Machine) → k.work ≡ w → first_broken (mounted_checks (mode_of w)) ≡ None → HasFiles k.config k.work image m.files → map info_in (files_of w) ≡ map info_of m.files
told_infos k unmounted image m at fine files = absurd (cc)
told_infos k (idle chain) image m at fine files = infos_told k.config image chain None m.files (subst (λ (x : Work). HasFiles k.config x image m.files) at files)
told_infos k (recording chain o) image m at fine files = infos_told k.config image chain (Some o) m.files (subst (λ (x : Work). HasFiles k.config x image m.files) at files)
told_infos k failed image m at fine files = absurd (cc)

pub files_refused : StepsStaySound → (k : Kept) (image : Image) (n : ℕ) (m : Machine) (r : Refusal) → IsConfig k.config → KeptStandsFor k image n m → first_broken (mounted_checks (mode_of k.work)) ≡ Some r
    → KeptStepsTaking none_taken k m Files (replies.Refused r) k image n
files_refused law k image n m r limits means is = refused_leads law k image n m Files r limits means (same_check k image n m means ∙ is) (λ x. refl)

pub files_lack : StepsStaySound → (k : Kept) (image : Image) (n : ℕ) (m : Machine) → IsConfig k.config → KeptStandsFor k image n m → first_broken (mounted_checks (mode_of k.work)) ≡ None
    → KeptStepsTaking none_taken k m Files (replies.Refused OutOfMemory) k image n
files_lack law k image n m limits means fine = memory_leads law k image image n n m Files limits means refl (omega arith) (same_check k image n m means ∙ fine) refl refl

pub files_done : FilesAreTold → (k : Kept) (image : Image) (n : ℕ) (m : Machine) (infos : List FileInfo) → IsConfig k.config → KeptStandsFor k image n m → first_broken (mounted_checks (mode_of k.work)) ≡ None
    → infos ≡ map info_in (files_of k.work) → KeptStepsTaking none_taken k m Files (replies.Files infos) k image n
files_done reported k image n m infos limits means fine is = record {
  machine = record m { failures = n };
  led = subst (λ (l : List FileInfo). KeptStepsTo k m Files (replies.Files l) k image n (record m { failures = n })) (sym (is ∙ told_infos k k.work image m refl fine means.files))
      (reported k image image n n m limits means refl (omega arith) (same_check k image n m means ∙ fine));
  lanes = none_left m.lanes;
  cursors = refl;
  sizes = λ again. none_shrinks m.files;
}
