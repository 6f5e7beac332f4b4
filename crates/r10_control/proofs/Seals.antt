-- A seal, as a step of the machine.
use Rattle.std.proofs.Common.{◌≡◌, ◌⊎◌, inl, inr, ◌≤◌, ◌<◌, ℕ, Bool, true, false, ◌&&◌, List, [], ◌∷◌, ◌++◌, Option, Some, None, refl, sym, ap, ◌∙◌, subst, arith}
use Rattle.std.specs.Prelude.{IsSomeAnd, nat_le, not}
use Rattle.std.specs.List.{last_or}
use Rattle.std.proofs.lemmas.Bool.{lt-leb}
use Rattle.r10_body.specs.declared.refusal.Refusal.{Refusal}
use Rattle.r10_body.specs.declared.refusal.Refusal.TheVariants.{Medium, MediumFull, NoSuchFile, OutOfMemory}
use Rattle.r10_body.specs.Packets.{Packet}
use Rattle.r10_count.specs.Checks.{first_broken}
use Rattle.r10_count.proofs.Rules.{rules_pass}
use Rattle.r10_dirblock.specs.Block.{is_closed}
use Rattle.r10_dirblock.specs.declared.entry.Entry.{Entry as DirectoryEntry}
use Rattle.r10_dirchain.specs.Chain.{listed_files}
use Rattle.r10_dirchain.specs.declared.chain.ChainBlock.{ChainBlock}
use Rattle.r10_volume.specs.Holding.{HoldsFiles}
use Rattle.r10_machine.specs.Checks.{idle_checks, is_recording, is_sealed}
use Rattle.r10_machine.specs.Limits.{IsConfig}
use Rattle.r10_machine.specs.Machine.{File, Machine, change_last, last_size, with_last}
use Rattle.r10_machine.specs.Room.{area, cost_of}
use Rattle.r10_machine.specs.declared.mode.Mode.{Mode}
use Rattle.r10_machine.specs.declared.mode.Mode.TheVariants as modes
use Rattle.r10_machine.proofs.Growing.{append_last}
use Rattle.r10_refinement.specs.KeptState.{Kept, Work, mode_of, unmounted, idle, recording, failed}
use Rattle.r10_refinement.specs.Means.{HasFiles, KeptStepsTo, KeptStandsFor}
use Rattle.r10_refinement.proofs.Leading.{StepsStaySound, failed_so, failing, no_fewer, same_refusal, still_means}
use Rattle.r10_medium.specs.Disk.{Image, Rose}
use Rattle.r10_cursor.proofs.Sizes.{last_grows, none_shrinks}
use Rattle.r10_cursor.specs.Staying.{NoneShrinks}
use Rattle.r10_control.specs.Checks.{files_of}
use Rattle.r10_control.specs.Leading.{KeptStepsTaking, none_taken}
use Rattle.r10_control.proofs.Dismounts.{held}
use Rattle.r10_control.proofs.Leading.{failed_leads, memory_leads, none_left, refused_leads, still_there}
use Rattle.r10_seal.specs.Leftover.{IsOpenOrClosed, IsLeftOpen, shown_cost}
use Rattle.r10_seal.specs.Sealing.{sealed}
use Rattle.r10_machine.specs.ControlCalls.{Seals, closed_in}
use Rattle.r10_machine.specs.EventChecks.{refusal}
use Rattle.r10_machine.specs.Says.{MediumSays}
use Rattle.r10_machine.specs.Sound.{SoundWork}
use Rattle.r10_machine.specs.Step.{FailsIn, GivesUp, Refuses, Step}
use Rattle.r10_machine.specs.declared.event.Event.{Event as EventValue}
use Rattle.r10_machine.specs.declared.event.Event.TheVariants.{Seal}
use Rattle.r10_machine.specs.declared.reply.Reply.TheVariants as replies
use Rattle.r10_volume.specs.Listing.{is_last_closed}
use Rattle.r10_volume.proofs.Listed.{closed_told}
use Rattle.r10_refinement.proofs.Lasting.{last_changes}

-- ---- checks

-- what a seal checks
abbrev pub checked : Kept → Option Refusal
checked k = first_broken (idle_checks (mode_of k.work) ++ (not (is_last_closed (files_of k.work)), NoSuchFile) ∷ [])

same_by : (w : Work) (k : Kept) (image : Image) (m : Machine) → k.work ≡ w → HasFiles k.config k.work image m.files
    → first_broken (idle_checks (mode_of w) ++ (not (is_sealed m.files), NoSuchFile) ∷ []) ≡ first_broken (idle_checks (mode_of w) ++ (not (is_last_closed (files_of w)), NoSuchFile) ∷ [])
same_by unmounted k image m at files = refl
same_by (recording chain o) k image m at files = refl
same_by failed k image m at files = refl
same_by (idle chain) k image m at files =
    ap (λ (b : Bool). first_broken (idle_checks modes.Idle ++ (not b, NoSuchFile) ∷ [])) (sym (closed_told k.config image chain None m.files (held k chain image m at files)))

pub same_check : (k : Kept) (image : Image) (n : ℕ) (m : Machine) → KeptStandsFor k image n m → refusal k.config m Seal ≡ checked k
same_check k image n m means = ap (λ mode. first_broken (idle_checks mode ++ (not (is_sealed m.files), NoSuchFile) ∷ [])) means.mode ∙ same_by k.work k image m refl means.files

-- the checks, by those of the mode and that of the last file
pub checked_by : (k : Kept) (chain : List ChainBlock) (b : Bool) (o : Option Refusal) → k.work ≡ idle chain → first_broken (idle_checks (mode_of k.work)) ≡ None → b ≡ is_last_closed (listed_files chain)
    → first_broken ((not b, NoSuchFile) ∷ []) ≡ o → checked k ≡ o
checked_by k chain b o at fine same is =
    rules_pass (idle_checks (mode_of k.work)) ((not (is_last_closed (files_of k.work)), NoSuchFile) ∷ []) fine
    ∙ ap (λ (w : Work). first_broken ((not (is_last_closed (files_of w)), NoSuchFile) ∷ [])) at
    ∙ ap (λ (c : Bool). first_broken ((not c, NoSuchFile) ∷ [])) (sym same)
    ∙ is

pub left_unsealed : (b : Bool) → first_broken ((not b, NoSuchFile) ∷ []) ≡ None → b ≡ false
left_unsealed true fine = absurd (cc)
left_unsealed false fine = refl

pub seal_refused : StepsStaySound → (k : Kept) (image : Image) (n : ℕ) (m : Machine) (r : Refusal) → IsConfig k.config → KeptStandsFor k image n m → checked k ≡ Some r → KeptStepsTaking none_taken k m Seal (replies.Refused r) k image n
seal_refused law k image n m r limits means is = refused_leads law k image n m Seal r limits means (same_check k image n m means ∙ is) (λ x. refl)

-- where the last file is open, there is one
pub sealed_some : (P : DirectoryEntry → Type 0) (o : Option DirectoryEntry) → elim o [ None ↦ true | Some e ↦ is_closed e ] ≡ false → ((e : DirectoryEntry) → o ≡ Some e → P e) → IsSomeAnd o P
sealed_some P None is each = absurd (cc)
sealed_some P (Some e) is each = each e refl

-- ---- the file that was left open

-- the last of the machine's files was left open by another recorder
pub record Left (k : Kept) (image : Image) (chain : List ChainBlock) (nodes : ℕ) (m : Machine) : Type 0 where
  pub files : List File
  pub f : File
  pub all : m.files ≡ files ++ f ∷ []
  pub left : IsLeftOpen k.config image chain nodes files f
  pub own : f.own ≡ false

last_split : (files : List File) → is_sealed files ≡ false → (front : List File) × (f : File) × (files ≡ front ++ f ∷ []) × (f.closed ≡ false)
last_split [] is = absurd (cc)
last_split (f ∷ []) is = ([], f, refl, is)
last_split (f ∷ g ∷ files) is = let rest = last_split (g ∷ files) is in (f ∷ rest.0, rest.1, ap (λ (l : List File). f ∷ l) rest.2, rest.3)

own_of_open : (own closed : Bool) → false ≡ (own && not closed) → closed ≡ false → own ≡ false
own_of_open true true is open_so = absurd (cc)
own_of_open true false is open_so = absurd (cc)
own_of_open false closed is open_so = refl

-- while no file is recorded, one that is open is another recorder's
others_file : (k : Kept) (image : Image) (n : ℕ) (m : Machine) (chain : List ChainBlock) (files : List File) (f : File) → KeptStandsFor k image n m → k.work ≡ idle chain → m.files ≡ files ++ f ∷ [] → f.closed ≡ false → f.own ≡ false
others_file k image n m chain files f means at all open_so =
    let sound : SoundWork modes.Idle k.config m = subst (λ (x : Mode). SoundWork x k.config m) (means.mode ∙ ap mode_of at) means.sound.work in
    let idle_so : is_recording m.mode ≡ false = ap is_recording (means.mode ∙ ap mode_of at) in
    own_of_open f.own f.closed
    (sym idle_so ∙ sound.recording ∙ ap (λ (l : List File). elim (last_or None l) [ None ↦ false | Some g ↦ g.own && not g.closed ]) all
    ∙ ap (λ (o : Option File). elim o [ None ↦ false | Some g ↦ g.own && not g.closed ]) (append_last None files f)) open_so

pub left_open : (k : Kept) (image : Image) (n : ℕ) (m : Machine) (chain : List ChainBlock) (nodes : ℕ) → KeptStandsFor k image n m → k.work ≡ idle chain → is_last_closed (listed_files chain) ≡ false → nodes ≡ k.config.nodes → Left k image chain nodes m
left_open k image n m chain nodes means at open_so nodes_are =
    let holds : HoldsFiles k.config image chain None m.files = held k chain image m at means.files in
    let split = last_split m.files (sym (closed_told k.config image chain None m.files holds) ∙ open_so) in
    record {
      files = split.0;
      f = split.1;
      all = split.2;
      left = record { held = subst (λ (l : List File). HoldsFiles k.config image chain None l) split.2 holds; unclosed = split.3; nodes_are = nodes_are };
      own = others_file k image n m chain split.0 split.1 means at split.2 split.3;
    }

-- ---- sealed

-- a file that is sealed is a step
abbrev pub SealsAreSteps : Type 0
SealsAreSteps = (k : Kept) (old new : Image) (n later : ℕ) (m : Machine) (chain made : List ChainBlock) (files : List File) (f : File) (size : ℕ) → IsConfig k.config → KeptStandsFor k old n m → k.work ≡ idle chain → m.files ≡ files ++ f ∷ []
    → refusal k.config m Seal ≡ None → cost_of f ≤ area k.config f → HoldsFiles k.config new made None (files ++ closed_in size f ∷ []) → n ≤ later
    → KeptStepsTo k m Seal replies.Done (record k { work = idle made }) new later (record m { files = files ++ closed_in size f ∷ []; failures = later })

grown : (m : Machine) (files : List File) (f : File) (size : ℕ) → m.files ≡ files ++ f ∷ [] → f.size ≤ size → NoneShrinks m.files (files ++ closed_in size f ∷ [])
grown m files f size all more = subst (λ (l : List File). NoneShrinks l (files ++ closed_in size f ∷ [])) (sym all) (last_grows files f (closed_in size f) more)

pub seal_done : SealsAreSteps → (k : Kept) (old new : Image) (before now : ℕ) (m : Machine) (chain made : List ChainBlock) (nodes : ℕ) (l : Left k old chain nodes m) (size : ℕ) → IsConfig k.config → KeptStandsFor k old before m → k.work ≡ idle chain
    → checked k ≡ None → shown_cost l.f ≡ cost_of l.f → shown_cost l.f ≤ area k.config l.f → HoldsFiles k.config new made None (l.files ++ closed_in size l.f ∷ []) → l.f.size ≤ size → before ≤ now → KeptStepsTaking none_taken k m Seal replies.Done (record k { work = idle made }) new now
seal_done law k old new before now m chain made nodes l size limits means at fine costs room holds more rises = record {
  machine = record m { files = l.files ++ closed_in size l.f ∷ []; failures = now };
  led = law k old new before now m chain made l.files l.f size limits means at l.all (same_check k old before m means ∙ fine) (omega (arith, costs, room)) holds rises;
  lanes = none_left m.lanes;
  cursors = refl;
  sizes = λ again. grown m l.files l.f size l.all more;
}

-- ---- room that is lacking

-- what is lacking refuses, and all stays
pub lack_leads : StepsStaySound → (k : Kept) (old new : Image) (before now : ℕ) (m : Machine) (event : EventValue) (r : Refusal) → IsConfig k.config → KeptStandsFor k old before m → new ≡ old → before ≤ now
    → refusal k.config m event ≡ None → GivesUp k.config m.failures (failing now m) event r (failing now m) → KeptStepsTaking none_taken k m event (replies.Refused r) k new now
lack_leads law k old new before now m event r limits means same more fine gives =
    let later : Machine = failing now m in
    let step : Step k.config m event (replies.Refused r) later = (
      no_fewer k old before now m means more,
      subst (λ o. Refuses o k.config m.failures later event r later) (sym (same_refusal k.config m now event ∙ fine)) gives,
    ) in
    record {
      machine = later;
      led = record { step = step; means = still_means k old new before now m means same (law k.config m event (replies.Refused r) later limits means.sound step) };
      lanes = none_left m.lanes;
      cursors = refl;
      sizes = λ again. none_shrinks m.files;
    }

last_is : (k : Kept) (old : Image) (m : Machine) (chain : List ChainBlock) (nodes : ℕ) (l : Left k old chain nodes m) → last_or None m.files ≡ Some l.f
last_is k old m chain nodes l = ap (λ (fs : List File). last_or None fs) l.all ∙ append_last None l.files l.f

pub room_lacks : StepsStaySound → (k : Kept) (old new : Image) (before now : ℕ) (m : Machine) (chain : List ChainBlock) (nodes : ℕ) (l : Left k old chain nodes m) → IsConfig k.config → KeptStandsFor k old before m → new ≡ old → before ≤ now
    → checked k ≡ None → shown_cost l.f ≤ cost_of l.f → area k.config l.f < shown_cost l.f → KeptStepsTaking none_taken k m Seal (replies.Refused MediumFull) k new now
room_lacks law k old new before now m chain nodes l limits means same more fine costs much =
    lack_leads law k old new before now m Seal MediumFull limits means same more (same_check k old before m means ∙ fine)
    (ap (λ (o : Option File). elim o [ None ↦ true | Some f ↦ nat_le (cost_of f) (area k.config f) ]) (last_is k old m chain nodes l) ∙ lt-leb (cost_of l.f) (area k.config l.f) (omega (arith, costs, much)), refl)

pub memory_lacks : StepsStaySound → (k : Kept) (old new : Image) (before now : ℕ) (m : Machine) → IsConfig k.config → KeptStandsFor k old before m → new ≡ old → before ≤ now → checked k ≡ None
    → KeptStepsTaking none_taken k m Seal (replies.Refused OutOfMemory) k new now
memory_lacks law k old new before now m limits means same more fine = memory_leads law k old new before now m Seal limits means same more (same_check k old before m means ∙ fine) refl refl

-- ---- where the medium fails, it says the files with the last one open, or closed

pub seals_so : (k : Kept) (old : Image) (now : ℕ) (m : Machine) (chain : List ChainBlock) (nodes : ℕ) (l : Left k old chain nodes m) (size : ℕ) → cost_of l.f ≤ area k.config l.f
    → Seals k.config (failing now m) (record m { files = l.files ++ closed_in size l.f ∷ []; failures = now })
seals_so k old now m chain nodes l size room =
    let shown : List File = l.files ++ closed_in size l.f ∷ [] in
    let done : Machine = record m { files = shown; failures = now } in
    let size_is : last_size done ≡ size = ap (λ (g : Option File). elim g [ None ↦ 0 | Some x ↦ x.size ]) (append_last None l.files (closed_in size l.f)) in
    let changed : shown ≡ change_last (closed_in (last_size done)) m.files =
    sym (last_changes (closed_in size) l.files l.f) ∙ ap (λ (n : ℕ). change_last (closed_in n) (l.files ++ l.f ∷ [])) (sym size_is) ∙ ap (λ (fs : List File). change_last (closed_in (last_size done)) fs) (sym l.all) in
    subst (λ (o : Option File). IsSomeAnd o (λ x. (cost_of x ≤ area k.config x) × (done ≡ with_last (closed_in (last_size done)) (failing now m)))) (sym (last_is k old m chain nodes l))
    (room, ap (λ (fs : List File). record m { files = fs; failures = now }) changed)

fails_after : StepsStaySound → (k : Kept) (old new : Image) (before now : ℕ) (m : Machine) (chain : List ChainBlock) (nodes : ℕ) (l : Left k old chain nodes m) (size : ℕ) → IsConfig k.config → KeptStandsFor k old before m → checked k ≡ None
    → before ≤ now → Rose before now → cost_of l.f ≤ area k.config l.f → l.f.size ≤ size → MediumSays k.config new (l.files ++ closed_in size l.f ∷ [])
    → KeptStepsTaking none_taken k m Seal (replies.Refused Medium) (record k { work = failed }) new now
fails_after law k old new before now m chain nodes l size limits means fine more rose room grows says =
    let end : Machine = record m { files = l.files ++ closed_in size l.f ∷ []; failures = now } in
    let later : Machine = record end { mode = modes.Failed } in
    let fails : FailsIn k.config (failing now m) Seal later =
    record { end = end; either = inr (replies.Done, seals_so k old now m chain nodes l size room); files = refl; lanes = still_there Seal m.lanes; rest = refl } in
    record {
      machine = later;
      led = failed_so law k old new before now m later Seal limits means more rose (same_check k old before m means ∙ fine) refl refl fails means.tick refl says;
      lanes = none_left m.lanes;
      cursors = refl;
      sizes = λ again. grown m l.files l.f size l.all grows;
    }

pub seal_fails : StepsStaySound → (k : Kept) (old new : Image) (before now : ℕ) (m : Machine) (chain : List ChainBlock) (nodes : ℕ) (l : Left k old chain nodes m) (packets : List Packet) → IsConfig k.config → KeptStandsFor k old before m → checked k ≡ None
    → before ≤ now → Rose before now → shown_cost l.f ≡ cost_of l.f → l.f.size ≤ (sealed nodes packets l.f).size → MediumSays k.config new (l.files ++ l.f ∷ []) ⊎ (shown_cost l.f ≤ area k.config l.f) → IsOpenOrClosed nodes k.config l.files l.f packets new
    → KeptStepsTaking none_taken k m Seal (replies.Refused Medium) (record k { work = failed }) new now
seal_fails law k old new before now m chain nodes l packets limits means fine more rose costs grows either reads = by either reads
  where
    open_still : MediumSays k.config new (l.files ++ l.f ∷ []) → KeptStepsTaking none_taken k m Seal (replies.Refused Medium) (record k { work = failed }) new now
    open_still says = failed_leads law k old new before now m Seal limits means more rose (same_check k old before m means ∙ fine) refl refl (subst (λ (fs : List File). MediumSays k.config new fs) (sym l.all) says)

    by : MediumSays k.config new (l.files ++ l.f ∷ []) ⊎ (shown_cost l.f ≤ area k.config l.f) → IsOpenOrClosed nodes k.config l.files l.f packets new → KeptStepsTaking none_taken k m Seal (replies.Refused Medium) (record k { work = failed }) new now
    by (inl says) also = open_still says
    by (inr room) (inl says) = open_still says
    by (inr room) (inr says) = fails_after law k old new before now m chain nodes l (sealed nodes packets l.f).size limits means fine more rose (omega (arith, costs, room)) grows says
