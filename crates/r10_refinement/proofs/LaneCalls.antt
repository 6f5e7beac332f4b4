-- Offers to lanes, losses, and calls that only tell.
use Rattle.std.proofs.Common.{◌≡◌, ◌≤◌, ℕ, Bool, true, false, cond, List, [], ◌∷◌, map, Some, None, refl, sym, ◌∙◌, subst, arith}
use Rattle.std.specs.Prelude.{IsSomeAnd, is_none, slice_get}
use Rattle.r10_count.specs.Checks.{first_broken}
use Rattle.r10_count.specs.declared.civil.Parts.{Parts}
use Rattle.r10_body.specs.declared.message.Message.{Message}
use Rattle.r10_body.specs.declared.refusal.Refusal.{Refusal}
use Rattle.r10_body.specs.declared.spec.ChannelSpec.{ChannelSpec}
use Rattle.r10_medium.specs.Disk.{Image}
use Rattle.r10_machine.specs.Calls.{accepted, losing, overflowed}
use Rattle.r10_machine.specs.Checks.{offer_checks}
use Rattle.r10_machine.specs.Limits.{IsConfig}
use Rattle.r10_machine.specs.Machine.{File, Lane, Machine, change_first, is_channel, lane_of, with_lane}
use Rattle.r10_machine.specs.EventChecks.{refusal}
use Rattle.r10_machine.specs.Sound.{IsSound}
use Rattle.r10_machine.specs.Finding.{count_at, found, info_of, status_of}
use Rattle.r10_machine.specs.Step.{Refuses, Step, after_refusal}
use Rattle.r10_machine.specs.declared.event.Event.TheVariants.{CountAt, Files, Find, Lose, Offer, Status}
use Rattle.r10_machine.specs.declared.reply.Reply.TheVariants as replies
use Rattle.r10_refinement.specs.KeptState.{Kept, Work, failed, idle, recording, unmounted}
use Rattle.r10_refinement.specs.Means.{LanesAreCounted, KeptStepsTo, KeptStandsFor, NumbersAre}
use Rattle.r10_refinement.proofs.Leading.{StepsStaySound, failing, no_fewer, still_means}

-- ---- a lane whose settings and erased entries stay

counts_changed : (change : Lane → Lane) (keeps : (l : Lane) → ((change l).spec ≡ l.spec) × ((change l).erased ≡ l.erased)) (channel : ℕ) (files : List File) (specs : List ChannelSpec) (taken erased : List ℕ) (lanes : List Lane)
    → LanesAreCounted files specs taken erased lanes → LanesAreCounted files specs taken erased (change_first (is_channel channel) change lanes)
counts_changed change keeps channel files [] [] [] [] are = tt
counts_changed change keeps channel files (x ∷ specs) (t ∷ taken) (e ∷ erased) (l ∷ lanes) are = by (is_channel channel l) (counts_changed change keeps channel files specs taken erased lanes are.1)
  where
    by : (b : Bool) → LanesAreCounted files specs taken erased (change_first (is_channel channel) change lanes)
        → LanesAreCounted files (x ∷ specs) (t ∷ taken) (e ∷ erased) (cond b (change l ∷ lanes) (l ∷ change_first (is_channel channel) change lanes))
    by true rest = (record { spec_is = (keeps l).0 ∙ are.0.spec_is; erased_is = (keeps l).1 ∙ are.0.erased_is; taken_is = are.0.taken_is }, are.1)
    by false rest = (are.0, rest)
counts_changed change keeps channel files [] [] [] (l ∷ lanes) are = absurd are
counts_changed change keeps channel files [] [] (e ∷ erased) lanes are = absurd are
counts_changed change keeps channel files [] (t ∷ taken) erased lanes are = absurd are
counts_changed change keeps channel files (x ∷ specs) [] erased lanes are = absurd are
counts_changed change keeps channel files (x ∷ specs) (t ∷ taken) [] lanes are = absurd are
counts_changed change keeps channel files (x ∷ specs) (t ∷ taken) (e ∷ erased) [] are = absurd are

numbers_changed : (change : Lane → Lane) (keeps : (l : Lane) → ((change l).spec ≡ l.spec) × ((change l).erased ≡ l.erased)) (channel : ℕ) (k : Kept) (w : Work) (m : Machine)
    → NumbersAre (record k { work = w }) m → NumbersAre (record k { work = w }) (with_lane channel change m)
numbers_changed change keeps channel k unmounted m (a, b, c, d) = (a, b, counts_changed change keeps channel m.files k.config.channels k.taken k.erased m.lanes c, d)
numbers_changed change keeps channel k (idle chain) m (a, b, c, d) = (a, b, counts_changed change keeps channel m.files k.config.channels k.taken k.erased m.lanes c, d)
numbers_changed change keeps channel k (recording chain o) m (a, b, c, d) = (a, b, counts_changed change keeps channel m.files k.config.channels k.taken k.erased m.lanes c, d)
numbers_changed change keeps channel k failed m numbers = tt

lane_means : (change : Lane → Lane) (keeps : (l : Lane) → ((change l).spec ≡ l.spec) × ((change l).erased ≡ l.erased)) (channel : ℕ) (k : Kept) (image : Image) (n : ℕ) (m : Machine) → KeptStandsFor k image n m
    → IsSound k.config (with_lane channel change m) → KeptStandsFor k image n (with_lane channel change m)
lane_means change keeps channel k image n m means sound = record {
  mode = means.mode;
  tick = means.tick;
  counted = means.counted;
  files = means.files;
  numbers = numbers_changed change keeps channel k k.work m means.numbers;
  sound = sound;
}

-- ---- offers

pub offered : StepsStaySound → (k : Kept) (image : Image) (n : ℕ) (m : Machine) (channel count : ℕ) (message : Message) → IsConfig k.config → KeptStandsFor k image n m → refusal k.config m (Offer channel count message) ≡ None
    → KeptStepsTo k m (Offer channel count message) replies.Done k image n (with_lane channel (accepted count message) m)
offered law k image n m channel count message limits means fine =
    let later : Machine = with_lane channel (accepted count message) m in
    let step : Step k.config m (Offer channel count message) replies.Done later = (omega arith, (fine, refl)) in
    record { step = step; means = lane_means (accepted count message) (λ l. (refl, refl)) channel k image n m means (law k.config m (Offer channel count message) replies.Done later limits means.sound step) }

pub offer_refused : StepsStaySound → (k : Kept) (image : Image) (n : ℕ) (m : Machine) (channel count : ℕ) (message : Message) (r : Refusal) → IsConfig k.config → KeptStandsFor k image n m → refusal k.config m (Offer channel count message) ≡ Some r
    → KeptStepsTo k m (Offer channel count message) (replies.Refused r) k image n (after_refusal (Offer channel count message) m)
offer_refused law k image n m channel count message r limits means is =
    let fine : Bool = is_none (first_broken (offer_checks (lane_of channel m) count message)) in
    let later : Machine = cond fine (with_lane channel overflowed m) m in
    let step : Step k.config m (Offer channel count message) (replies.Refused r) later = (by-le fine, subst (λ o. Refuses o k.config m.failures (failing later.failures m) (Offer channel count message) r later) (sym is) (refl, by-same fine)) in
    record { step = step; means = by-means fine (law k.config m (Offer channel count message) (replies.Refused r) later limits means.sound step) }
  where
    by-le : (b : Bool) → m.failures ≤ (cond b (with_lane channel overflowed m) m).failures
    by-le true = omega arith
    by-le false = omega arith

    by-same : (b : Bool) → cond b (with_lane channel overflowed m) m ≡ cond b (with_lane channel overflowed (failing (cond b (with_lane channel overflowed m) m).failures m)) (failing (cond b (with_lane channel overflowed m) m).failures m)
    by-same true = refl
    by-same false = refl

    by-means : (b : Bool) → IsSound k.config (cond b (with_lane channel overflowed m) m) → KeptStandsFor k image n (cond b (with_lane channel overflowed m) m)
    by-means true sound = lane_means overflowed (λ l. (refl, refl)) channel k image n m means sound
    by-means false sound = means

-- ---- losses that are reported

pub loss_counted : StepsStaySound → (k : Kept) (image : Image) (n : ℕ) (m : Machine) (channel lost : ℕ) → IsConfig k.config → KeptStandsFor k image n m → refusal k.config m (Lose channel lost) ≡ None
    → KeptStepsTo k m (Lose channel lost) replies.Done k image n (with_lane channel (losing lost) m)
loss_counted law k image n m channel lost limits means fine =
    let later : Machine = with_lane channel (losing lost) m in
    let step : Step k.config m (Lose channel lost) replies.Done later = (omega arith, (fine, refl)) in
    record { step = step; means = lane_means (losing lost) (λ l. (refl, refl)) channel k image n m means (law k.config m (Lose channel lost) replies.Done later limits means.sound step) }

pub loss_refused : StepsStaySound → (k : Kept) (image : Image) (n : ℕ) (m : Machine) (channel lost : ℕ) (r : Refusal) → IsConfig k.config → KeptStandsFor k image n m → refusal k.config m (Lose channel lost) ≡ Some r
    → KeptStepsTo k m (Lose channel lost) (replies.Refused r) k image n m
loss_refused law k image n m channel lost r limits means is =
    let step : Step k.config m (Lose channel lost) (replies.Refused r) m = (omega arith, subst (λ o. Refuses o k.config m.failures (failing m.failures m) (Lose channel lost) r m) (sym is) (refl, refl)) in
    record { step = step; means = means }

-- ---- calls that only tell

pub files_told : StepsStaySound → (k : Kept) (old new : Image) (before now : ℕ) (m : Machine) → IsConfig k.config → KeptStandsFor k old before m → new ≡ old → before ≤ now → refusal k.config m Files ≡ None
    → KeptStepsTo k m Files (replies.Files (map info_of m.files)) k new now (record m { failures = now })
files_told law k old new before now m limits means same more fine =
    let step : Step k.config m Files (replies.Files (map info_of m.files)) (failing now m) = (no_fewer k old before now m means more, (fine, (refl, refl))) in
    record { step = step; means = still_means k old new before now m means same (law k.config m Files (replies.Files (map info_of m.files)) (failing now m) limits means.sound step) }

pub status_told : StepsStaySound → (k : Kept) (old new : Image) (before now : ℕ) (m : Machine) → IsConfig k.config → KeptStandsFor k old before m → new ≡ old → before ≤ now
    → KeptStepsTo k m Status (replies.Status (status_of k.config m)) k new now (record m { failures = now })
status_told law k old new before now m limits means same more =
    let step : Step k.config m Status (replies.Status (status_of k.config m)) (failing now m) = (no_fewer k old before now m means more, (refl, (refl, refl))) in
    record { step = step; means = still_means k old new before now m means same (law k.config m Status (replies.Status (status_of k.config m)) (failing now m) limits means.sound step) }

pub found_told : StepsStaySound → (k : Kept) (old new : Image) (before now : ℕ) (m : Machine) (file channel count : ℕ) (f : File) → IsConfig k.config → KeptStandsFor k old before m → new ≡ old → before ≤ now
    → refusal k.config m (Find file channel count) ≡ None → slice_get m.files file ≡ Some f → KeptStepsTo k m (Find file channel count) (replies.Found (found f channel count)) k new now (record m { failures = now })
found_told law k old new before now m file channel count f limits means same more fine there =
    let step : Step k.config m (Find file channel count) (replies.Found (found f channel count)) (failing now m) = (
      no_fewer k old before now m means more,
      (fine, (subst (λ o. IsSomeAnd o (λ x. found f channel count ≡ found x channel count)) (sym there) refl, refl)),
    ) in
    record { step = step; means = still_means k old new before now m means same (law k.config m (Find file channel count) (replies.Found (found f channel count)) (failing now m) limits means.sound step) }

pub count_told : StepsStaySound → (k : Kept) (old new : Image) (before now : ℕ) (m : Machine) (file : ℕ) (parts : Parts) (f : File) → IsConfig k.config → KeptStandsFor k old before m → new ≡ old → before ≤ now
    → refusal k.config m (CountAt file parts) ≡ None → slice_get m.files file ≡ Some f → KeptStepsTo k m (CountAt file parts) (replies.CountAt (count_at f parts)) k new now (record m { failures = now })
count_told law k old new before now m file parts f limits means same more fine there =
    let step : Step k.config m (CountAt file parts) (replies.CountAt (count_at f parts)) (failing now m) = (
      no_fewer k old before now m means more,
      (fine, (subst (λ o. IsSomeAnd o (λ x. count_at f parts ≡ count_at x parts)) (sym there) refl, refl)),
    ) in
    record { step = step; means = still_means k old new before now m means same (law k.config m (CountAt file parts) (replies.CountAt (count_at f parts)) (failing now m) limits means.sound step) }
