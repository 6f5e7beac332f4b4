-- Steps of the machine, and the machines that are represented before and after them.
use Rattle.std.proofs.Common.{◌≡◌, ◌≤◌, ◌+◌, ℕ, true, inl, inr, List, [], ◌∷◌, length, map, Some, None, refl, sym, ap, ◌∙◌, subst, arith}
use Rattle.std.specs.Option.{option_or}
use Rattle.r10_count.specs.Checks.{first_broken}
use Rattle.r10_body.specs.declared.refusal.Refusal.{Refusal}
use Rattle.r10_body.specs.declared.refusal.Refusal.TheVariants.{Medium, OutOfMemory}
use Rattle.r10_body.specs.declared.spec.ChannelSpec.{ChannelSpec}
use Rattle.r10_count.specs.declared.civil.Parts.{Parts}
use Rattle.r10_medium.specs.Disk.{Image, Rose}
use Rattle.r10_dirchain.specs.Chain.{listed_files}
use Rattle.r10_dirchain.specs.declared.chain.ChainBlock.{ChainBlock}
use Rattle.r10_volume.specs.Holding.{HoldsFiles, OthersAreFound}
use Rattle.r10_machine.specs.declared.mode.Mode.{Mode}
use Rattle.r10_machine.specs.declared.mode.Mode.TheVariants as modes
use Rattle.r10_machine.specs.Calls.{TicksIn}
use Rattle.r10_machine.specs.Checks.{unmounted_checks, idle_checks, is_recording}
use Rattle.r10_machine.specs.Config.{Config}
use Rattle.r10_machine.specs.Limits.{IsConfig}
use Rattle.r10_machine.specs.Machine.{File, Lane, Machine, saturated}
use Rattle.r10_machine.specs.EventChecks.{refusal}
use Rattle.r10_machine.specs.Says.{MediumSays}
use Rattle.r10_machine.specs.Sound.{IsSound}
use Rattle.r10_machine.specs.ControlCalls.{erased_with, own_entries}
use Rattle.r10_machine.specs.Step.{FailsIn, LanesAfter, Step, Refuses, after_refusal, asks_memory, entry_has_room, uses_medium}
use Rattle.r10_machine.specs.declared.event.Event.{Event as EventValue}
use Rattle.r10_machine.specs.declared.event.Event.TheVariants.{Mount, Dismount, Tick, Start, Offer, Lose, Pump, Event, Commit, Stop, Seal, Erase, Files, Status, Cursor, Advance, Next, Close, Find, CountAt}
use Rattle.r10_machine.specs.declared.reply.Reply.{Reply as ReplyValue}
use Rattle.r10_machine.specs.declared.reply.Reply.TheVariants as replies
use Rattle.r10_refinement.specs.KeptState.{Kept, Work, mode_of, unmounted, idle, failed}
use Rattle.r10_refinement.specs.Means.{LanesAreCounted, HasFiles, LaneIsCounted, KeptStepsTo, KeptStandsFor, NumbersAre}
use Rattle.r10_refinement.proofs.Owning.{mounted_follows, none_follow}
use Rattle.r10_volume.proofs.Listed.{count_told}

-- every step keeps a sound state sound
abbrev pub StepsStaySound : Type 0
StepsStaySound = (s : Config) (old : Machine) (event : EventValue) (reply : ReplyValue) (new : Machine) → IsConfig s → IsSound s old → Step s old event reply new → IsSound s new

-- ---- failures that are counted change no check

abbrev pub failing : ℕ → Machine → Machine
failing n m = record m { failures = n }

pub same_refusal : (s : Config) (m : Machine) (n : ℕ) (event : EventValue) → refusal s (failing n m) event ≡ refusal s m event
same_refusal s m n Mount = refl
same_refusal s m n Dismount = refl
same_refusal s m n (Tick count parts) = refl
same_refusal s m n (Start name setup) = refl
same_refusal s m n (Offer channel count message) = refl
same_refusal s m n (Lose channel lost) = refl
same_refusal s m n (Pump channel most) = refl
same_refusal s m n (Event number count) = refl
same_refusal s m n Commit = refl
same_refusal s m n Stop = refl
same_refusal s m n Seal = refl
same_refusal s m n Erase = refl
same_refusal s m n Files = refl
same_refusal s m n Status = refl
same_refusal s m n (Cursor file channels from to) = refl
same_refusal s m n (Advance id) = refl
same_refusal s m n (Next id) = refl
same_refusal s m n (Close id) = refl
same_refusal s m n (Find file channel count) = refl
same_refusal s m n (CountAt file parts) = refl

same_room : (s : Config) (m : Machine) (n : ℕ) (event : EventValue) → entry_has_room s (failing n m) event ≡ entry_has_room s m event
same_room s m n Mount = refl
same_room s m n Dismount = refl
same_room s m n (Tick count parts) = refl
same_room s m n (Start name setup) = refl
same_room s m n (Offer channel count message) = refl
same_room s m n (Lose channel lost) = refl
same_room s m n (Pump channel most) = refl
same_room s m n (Event number count) = refl
same_room s m n Commit = refl
same_room s m n Stop = refl
same_room s m n Seal = refl
same_room s m n Erase = refl
same_room s m n Files = refl
same_room s m n Status = refl
same_room s m n (Cursor file channels from to) = refl
same_room s m n (Advance id) = refl
same_room s m n (Next id) = refl
same_room s m n (Close id) = refl
same_room s m n (Find file channel count) = refl
same_room s m n (CountAt file parts) = refl

-- ---- where nothing changes

pub no_fewer : (k : Kept) (old : Image) (before now : ℕ) (m : Machine) → KeptStandsFor k old before m → before ≤ now → m.failures ≤ now
no_fewer k old before now m means more = omega (arith, means.counted, more)

pub still_means : (k : Kept) (old new : Image) (before now : ℕ) (m : Machine) → KeptStandsFor k old before m → new ≡ old → IsSound k.config (failing now m) → KeptStandsFor k new now (failing now m)
still_means k old new before now m means same sound = record {
  mode = means.mode;
  tick = means.tick;
  counted = refl;
  files = subst (λ (b : Image). HasFiles k.config k.work b m.files) (sym same) means.files;
  numbers = means.numbers;
  sound = sound;
}

pub refused : StepsStaySound → (k : Kept) (old new : Image) (before now : ℕ) (m : Machine) (event : EventValue) (r : Refusal) → IsConfig k.config → KeptStandsFor k old before m → new ≡ old → before ≤ now
    → refusal k.config m event ≡ Some r → ((n : Machine) → after_refusal event n ≡ n) → KeptStepsTo k m event (replies.Refused r) k new now (record m { failures = now })
refused law k old new before now m event r limits means same more is stays =
    let later : Machine = failing now m in
    let step : Step k.config m event (replies.Refused r) later = (
      no_fewer k old before now m means more,
      subst (λ o. Refuses o k.config m.failures later event r later) (sym (same_refusal k.config m now event ∙ is)) (refl, sym (stays later)),
    ) in
    record { step = step; means = still_means k old new before now m means same (law k.config m event (replies.Refused r) later limits means.sound step) }

pub lacks_memory : StepsStaySound → (k : Kept) (old new : Image) (before now : ℕ) (m : Machine) (event : EventValue) → IsConfig k.config → KeptStandsFor k old before m → new ≡ old → before ≤ now
    → refusal k.config m event ≡ None → asks_memory event ≡ true → entry_has_room k.config m event ≡ true → KeptStepsTo k m event (replies.Refused OutOfMemory) k new now (record m { failures = now })
lacks_memory law k old new before now m event limits means same more fine asks room =
    let later : Machine = failing now m in
    let step : Step k.config m event (replies.Refused OutOfMemory) later = (
      no_fewer k old before now m means more,
      subst (λ o. Refuses o k.config m.failures later event OutOfMemory later) (sym (same_refusal k.config m now event ∙ fine))
          (asks, same_room k.config m now event ∙ room, refl),
    ) in
    record { step = step; means = still_means k old new before now m means same (law k.config m event (replies.Refused OutOfMemory) later limits means.sound step) }

-- ---- mounts

pub numbers_at : (k : Kept) (w : Work) (m : Machine) → k.work ≡ w → NumbersAre k m → NumbersAre (record k { work = w }) m
numbers_at k w m is numbers = subst (λ (v : Work). NumbersAre (record k { work = v }) m) is numbers

may_mount : (mode : Mode) → mode ≡ modes.Unmounted → first_broken (unmounted_checks mode) ≡ None
may_mount mode is = subst (λ v. first_broken (unmounted_checks v) ≡ None) (sym is) refl

may_dismount : (mode : Mode) → mode ≡ modes.Idle → first_broken (idle_checks mode) ≡ None
may_dismount mode is = subst (λ v. first_broken (idle_checks v) ≡ None) (sym is) refl

pub mounted : StepsStaySound → (k : Kept) (old new : Image) (before now : ℕ) (m : Machine) (chain : List ChainBlock) → IsConfig k.config → KeptStandsFor k old before m → k.work ≡ unmounted → HoldsFiles k.config new chain None m.files → before ≤ now
    → KeptStepsTo k m Mount replies.Done (record k { work = idle chain; found = option_or k.found (Some (length (listed_files chain))) }) new now (record m { mode = modes.Idle; failures = now })
mounted law k old new before now m chain limits means at holds more =
    let later : Machine = record m { mode = modes.Idle; failures = now } in
    let step : Step k.config m Mount replies.Done later = (no_fewer k old before now m means more, (may_mount m.mode (means.mode ∙ ap mode_of at), refl)) in
    let numbers = numbers_at k unmounted m at means.numbers in
    record {
      step = step;
      means = record {
        mode = refl;
        tick = means.tick;
        counted = refl;
        files = holds;
        numbers = (numbers.0, numbers.1, numbers.2, mounted_follows k.found m.files (length (listed_files chain)) (count_told k.config new chain None m.files holds) numbers.3);
        sound = law k.config m Mount replies.Done later limits means.sound step;
      };
    }

pub dismounted : StepsStaySound → (k : Kept) (old new : Image) (before now : ℕ) (m : Machine) (chain : List ChainBlock) → IsConfig k.config → KeptStandsFor k old before m → k.work ≡ idle chain
    → MediumSays k.config new m.files → OthersAreFound new m.files → before ≤ now → KeptStepsTo k m Dismount replies.Done (record k { work = unmounted }) new now (record m { mode = modes.Unmounted; failures = now })
dismounted law k old new before now m chain limits means at says found more =
    let later : Machine = record m { mode = modes.Unmounted; failures = now } in
    let step : Step k.config m Dismount replies.Done later = (no_fewer k old before now m means more, (may_dismount m.mode (means.mode ∙ ap mode_of at), refl)) in
    let numbers = numbers_at k (idle chain) m at means.numbers in
    record {
      step = step;
      means = record {
        mode = refl;
        tick = means.tick;
        counted = refl;
        files = (says, found);
        numbers = (numbers.0, numbers.1, numbers.2, inr numbers.3);
        sound = law k.config m Dismount replies.Done later limits means.sound step;
      };
    }

-- ---- a failure of the medium

pub failed_so : StepsStaySound → (k : Kept) (old new : Image) (before now : ℕ) (m later : Machine) (event : EventValue) → IsConfig k.config → KeptStandsFor k old before m → before ≤ now → Rose before now
    → refusal k.config m event ≡ None → uses_medium event ≡ true → entry_has_room k.config m event ≡ true → FailsIn k.config (failing now m) event later
    → later.tick ≡ k.tick → later.failures ≡ now → MediumSays k.config new later.files → KeptStepsTo k m event (replies.Refused Medium) (record k { work = failed }) new now later
failed_so law k old new before now m later event limits means more rose fine uses room fails tick counted says =
    let gives : Refuses (refusal k.config (failing now m) event) k.config m.failures (failing now m) event Medium later =
    subst (λ o. Refuses o k.config m.failures (failing now m) event Medium later) (sym (same_refusal k.config m now event ∙ fine))
    (uses, same_room k.config m now event ∙ room, subst (λ n. Rose n now) (sym means.counted) rose, fails) in
    let step : Step k.config m event (replies.Refused Medium) later = (
      subst (λ n. m.failures ≤ n) (sym counted) (no_fewer k old before now m means more),
      subst (λ n. Refuses (refusal k.config (failing n m) event) k.config m.failures (failing n m) event Medium later) (sym counted) gives,
    ) in
    record {
      step = step;
      means = record {
        mode = ap (λ (x : Machine). x.mode) fails.rest;
        tick = tick;
        counted = counted;
        files = says;
        numbers = tt;
        sound = law k.config m event (replies.Refused Medium) later limits means.sound step;
      };
    }

-- as before, but for what was taken from lanes
pub failed_before : (s : Config) (m : Machine) (event : EventValue) (lanes : List Lane) → LanesAfter event m.lanes m.lanes lanes → FailsIn s m event (record m { mode = modes.Failed; lanes = lanes })
failed_before s m event lanes after = record { end = m; either = inl refl; files = refl; lanes = after; rest = refl }

-- ---- erases

count_erased : (spec : ChannelSpec) (files : List File) (taken erased : ℕ) (lane : Lane) → LaneIsCounted files spec taken erased lane → LaneIsCounted [] spec taken taken (erased_with files lane)
count_erased spec files taken erased lane is =
    let same : (erased_with files lane).erased ≡ taken =
    ap (λ n. saturated (n + length (own_entries lane.spec.id files))) is.erased_is ∙ ap (λ (x : ChannelSpec). saturated (erased + length (own_entries x.id files))) is.spec_is ∙ sym is.taken_is in
    record {
      spec_is = is.spec_is;
      erased_is = same;
      taken_is = omega (arith, is.taken_is);
    }

counts_erased : (specs : List ChannelSpec) (files : List File) (taken erased : List ℕ) (lanes : List Lane) → LanesAreCounted files specs taken erased lanes → LanesAreCounted [] specs taken taken (map (erased_with files) lanes)
counts_erased [] files [] [] [] are = tt
counts_erased (x ∷ specs) files (t ∷ taken) (e ∷ erased) (l ∷ lanes) are = (count_erased x files t e l are.0, counts_erased specs files taken erased lanes are.1)
counts_erased [] files [] [] (l ∷ lanes) are = absurd are
counts_erased [] files [] (e ∷ erased) lanes are = absurd are
counts_erased [] files (t ∷ taken) erased lanes are = absurd are
counts_erased (x ∷ specs) files [] erased lanes are = absurd are
counts_erased (x ∷ specs) files (t ∷ taken) [] lanes are = absurd are
counts_erased (x ∷ specs) files (t ∷ taken) (e ∷ erased) [] are = absurd are

pub erased : StepsStaySound → (k : Kept) (old new : Image) (before now : ℕ) (m : Machine) (chain made : List ChainBlock) → IsConfig k.config → KeptStandsFor k old before m → k.work ≡ idle chain → refusal k.config m Erase ≡ None
    → HoldsFiles k.config new made None [] → before ≤ now → KeptStepsTo k m Erase replies.Done (record k { work = idle made; generation = k.generation + 1; erased = k.taken; found = Some 0 }) new now (record m { files = []; generation = m.generation + 1; lanes = map (erased_with m.files) m.lanes; failures = now })
erased law k old new before now m chain made limits means at fine holds more =
    let later : Machine = record m { files = []; generation = m.generation + 1; lanes = map (erased_with m.files) m.lanes; failures = now } in
    let step : Step k.config m Erase replies.Done later = (no_fewer k old before now m means more, (fine, refl)) in
    let numbers = numbers_at k (idle chain) m at means.numbers in
    record {
      step = step;
      means = record {
        mode = means.mode ∙ ap mode_of at;
        tick = means.tick;
        counted = refl;
        files = holds;
        numbers = (numbers.0, ap (λ n. n + 1) numbers.1, counts_erased k.config.channels m.files k.taken k.erased m.lanes numbers.2, none_follow);
        sound = law k.config m Erase replies.Done later limits means.sound step;
      };
    }

-- ---- the clock, while no file is recorded

pub ticked : StepsStaySound → (k : Kept) (old new : Image) (before now : ℕ) (m : Machine) (chain : List ChainBlock) (count : ℕ) (parts : Parts) → IsConfig k.config → KeptStandsFor k old before m → k.work ≡ idle chain
    → refusal k.config m (Tick count parts) ≡ None → new ≡ old → before ≤ now → KeptStepsTo k m (Tick count parts) replies.Done (record k { tick = Some (record { count = count; civil = parts }) }) new now (record m { tick = Some (record { count = count; civil = parts }); failures = now })
ticked law k old new before now m chain count parts limits means at fine same more =
    let later : Machine = record m { tick = Some (record { count = count; civil = parts }); failures = now } in
    let step : Step k.config m (Tick count parts) replies.Done later = (
      no_fewer k old before now m means more,
      (fine, subst (λ mode. TicksIn (is_recording mode) k.config (failing now m) (record { count = count; civil = parts }) later) (sym (means.mode ∙ ap mode_of at)) refl),
    ) in
    record {
      step = step;
      means = record {
        mode = means.mode;
        tick = refl;
        counted = refl;
        files = subst (λ (b : Image). HasFiles k.config k.work b m.files) (sym same) means.files;
        numbers = means.numbers;
        sound = law k.config m (Tick count parts) replies.Done later limits means.sound step;
      };
    }
