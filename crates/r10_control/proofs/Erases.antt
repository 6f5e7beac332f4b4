-- An erase, as a step of the machine.
use Rattle.std.proofs.Common.{◌≡◌, ◌≤◌, ◌+◌, ◌⊎◌, inl, inr, ℕ, List, [], ◌∷◌, ◌++◌, map, Option, Some, None, refl, sym, ap, ◌∙◌, subst, arith}
use Rattle.r10_body.specs.declared.refusal.Refusal.{Refusal}
use Rattle.r10_body.specs.declared.refusal.Refusal.TheVariants.{Medium, OutOfMemory}
use Rattle.r10_count.specs.Checks.{first_broken}
use Rattle.r10_dirchain.specs.declared.chain.ChainBlock.{ChainBlock}
use Rattle.r10_volume.specs.Holding.{HoldsFiles}
use Rattle.r10_machine.specs.Checks.{idle_checks}
use Rattle.r10_machine.specs.Limits.{IsConfig}
use Rattle.r10_machine.specs.Machine.{File, Lane, Machine}
use Rattle.r10_machine.specs.declared.mode.Mode.TheVariants as modes
use Rattle.r10_refinement.specs.KeptState.{Kept, Work, mode_of, unmounted, idle, recording, failed}
use Rattle.r10_refinement.specs.Means.{KeptStandsFor, NumbersAre}
use Rattle.r10_refinement.proofs.Leading.{StepsStaySound, erased, failed_so}
use Rattle.r10_medium.specs.Disk.{Image, Rose}
use Rattle.r10_control.specs.Leading.{AreLeft, KeptStepsTaking, none_taken}
use Rattle.r10_control.proofs.Leading.{failed_leads, memory_leads, refused_leads}
use Rattle.r10_machine.specs.ControlCalls.{erased_with}
use Rattle.r10_machine.specs.EventChecks.{erase_checks, refusal}
use Rattle.r10_machine.specs.Says.{MediumSays}
use Rattle.r10_machine.specs.Step.{FailsIn, LanesAfter}
use Rattle.r10_machine.specs.declared.event.Event.TheVariants.{Erase}
use Rattle.r10_machine.specs.declared.reply.Reply.TheVariants as replies

-- what an erase checks
abbrev pub checked : Kept → Option Refusal
checked k = first_broken (idle_checks (mode_of k.work) ++ erase_checks k.generation)

same_by : (w : Work) (k : Kept) (m : Machine) → k.work ≡ w → NumbersAre k m → first_broken (idle_checks (mode_of w) ++ erase_checks m.generation) ≡ first_broken (idle_checks (mode_of w) ++ erase_checks k.generation)
same_by unmounted k m at numbers = refl
same_by failed k m at numbers = refl
same_by (idle chain) k m at numbers =
    let all : NumbersAre (record k { work = idle chain }) m = subst (λ (x : Work). NumbersAre (record k { work = x }) m) at numbers in
    ap (λ n. first_broken (idle_checks modes.Idle ++ erase_checks n)) all.1
same_by (recording chain o) k m at numbers = refl

pub same_check : (k : Kept) (image : Image) (n : ℕ) (m : Machine) → KeptStandsFor k image n m → refusal k.config m Erase ≡ checked k
same_check k image n m means = ap (λ mode. first_broken (idle_checks mode ++ erase_checks m.generation)) means.mode ∙ same_by k.work k m refl means.numbers

pub erase_refused : StepsStaySound → (k : Kept) (image : Image) (n : ℕ) (m : Machine) (r : Refusal) → IsConfig k.config → KeptStandsFor k image n m → checked k ≡ Some r → KeptStepsTaking none_taken k m Erase (replies.Refused r) k image n
erase_refused law k image n m r limits means is = refused_leads law k image n m Erase r limits means (same_check k image n m means ∙ is) (λ x. refl)

pub erase_lacks : StepsStaySound → (k : Kept) (old : Image) (n : ℕ) (m : Machine) → IsConfig k.config → KeptStandsFor k old n m → checked k ≡ None → KeptStepsTaking none_taken k m Erase (replies.Refused OutOfMemory) k old n
erase_lacks law k old n m limits means fine = memory_leads law k old old n n m Erase limits means refl (omega arith) (same_check k old n m means ∙ fine) refl refl

-- the lanes are left as they are, but for what was erased
left_erased : (files : List File) (lanes : List Lane) → AreLeft none_taken lanes (map (erased_with files) lanes)
left_erased files [] = tt
left_erased files (l ∷ lanes) = (refl, left_erased files lanes)

pub erase_done : StepsStaySound → (k : Kept) (old new : Image) (before now : ℕ) (m : Machine) (chain made : List ChainBlock) → IsConfig k.config → KeptStandsFor k old before m → k.work ≡ idle chain → checked k ≡ None
    → HoldsFiles k.config new made None [] → before ≤ now → KeptStepsTaking none_taken k m Erase replies.Done (record k { work = idle made; generation = k.generation + 1; erased = k.taken; found = Some 0 }) new now
erase_done law k old new before now m chain made limits means at fine holds more = record {
  machine = record m { files = []; generation = m.generation + 1; lanes = map (erased_with m.files) m.lanes; failures = now };
  led = erased law k old new before now m chain made limits means at (same_check k old before m means ∙ fine) holds more;
  lanes = left_erased m.files m.lanes;
  cursors = refl;
  sizes = λ again. absurd (omega (arith, again));
}

-- ---- where the medium fails, it says the files from before, or none

after_erased : (files : List File) (lanes : List Lane) → LanesAfter Erase lanes (map (erased_with files) lanes) (map (erased_with files) lanes)
after_erased files [] = tt
after_erased files (l ∷ lanes) = ((0, omega arith, refl), after_erased files lanes)

fails_after : StepsStaySound → (k : Kept) (old new : Image) (before now : ℕ) (m : Machine) → IsConfig k.config → KeptStandsFor k old before m → checked k ≡ None → before ≤ now → Rose before now
    → MediumSays k.config new [] → KeptStepsTaking none_taken k m Erase (replies.Refused Medium) (record k { work = failed }) new now
fails_after law k old new before now m limits means fine more rose says =
    let end : Machine = record m { files = []; generation = m.generation + 1; lanes = map (erased_with m.files) m.lanes; failures = now } in
    let later : Machine = record end { mode = modes.Failed } in
    let fails : FailsIn k.config (record m { failures = now }) Erase later =
    record { end = end; either = inr (replies.Done, refl); files = refl; lanes = after_erased m.files m.lanes; rest = refl } in
    record {
      machine = later;
      led = failed_so law k old new before now m later Erase limits means more rose (same_check k old before m means ∙ fine) refl refl fails means.tick refl says;
      lanes = left_erased m.files m.lanes;
      cursors = refl;
      sizes = λ again. absurd (omega (arith, again));
    }

pub erase_fails : StepsStaySound → (k : Kept) (old new : Image) (before now : ℕ) (m : Machine) → IsConfig k.config → KeptStandsFor k old before m → checked k ≡ None → before ≤ now → Rose before now
    → MediumSays k.config new m.files ⊎ MediumSays k.config new [] → KeptStepsTaking none_taken k m Erase (replies.Refused Medium) (record k { work = failed }) new now
erase_fails law k old new before now m limits means fine more rose (inl says) = failed_leads law k old new before now m Erase limits means more rose (same_check k old before m means ∙ fine) refl refl says
erase_fails law k old new before now m limits means fine more rose (inr says) = fails_after law k old new before now m limits means fine more rose says
