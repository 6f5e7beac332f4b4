-- A machine whose lane gives the first message that waits to nobody's file.
use Rattle.std.proofs.Common.{◌≡◌, ◌≤◌, ℕ, Bool, true, false, cond, List, [], ◌∷◌, ◌++◌, length, map, drop, find, get_or, set, Option, None, Some, Result, Ok, Err, refl, sym, ap, ◌∙◌, subst, arith}
use Rattle.std.specs.Prelude.{MatchOption, IfOk, slice_get}
use Rattle.std.specs.List.{AllByRecursion, position}
use Rattle.r10_body.specs.declared.entry.Sample.{Sample}
use Rattle.r10_body.specs.declared.refusal.Refusal.{Refusal}
use Rattle.r10_body.specs.declared.spec.ChannelSpec.{ChannelSpec}
use Rattle.r10_count.specs.Checks.{first_broken}
use Rattle.r10_count.specs.Count.{IsCount}
use Rattle.r10_body.specs.Gaps.{IsSoundGap}
use Rattle.r10_lane.proofs.Waiting.{raised}
use Rattle.r10_lane.specs.Lanes.{TookWaiting, reached}
use Rattle.r10_machine.specs.Calls.{without}
use Rattle.r10_machine.specs.Checks.{channel_checks, message_checks}
use Rattle.r10_machine.specs.Config.{Config}
use Rattle.r10_machine.specs.Machine.{File, Lane, Machine, change_first, is_channel, lane_in, with_lane}
use Rattle.r10_machine.specs.Sound.{IsSound}
use Rattle.r10_machine.specs.SoundParts.{Climbs, IsSoundLane, LaneClimbs, count_or_0, counts_on}
use Rattle.r10_machine.proofs.Grown.{work_moved}
use Rattle.r10_machine.proofs.Steady.{changed_all, same_specs}
use Rattle.r10_medium.specs.Disk.{Image}
use Rattle.r10_refinement.specs.KeptState.{Kept, Work, unmounted, idle, recording, failed}
use Rattle.r10_refinement.specs.Means.{LanesAreCounted, KeptStandsFor, NumbersAre}
use Rattle.r10_control.specs.Lanes.{AreLanes, StandsWithout, TakesWaiting, first_waiting, unerased}
use Rattle.r10_control.proofs.Offers.{changed_in, is_at}

-- ---- a lane without its first message

fewer : {X : Type 0} (P : X → Type 0) (xs : List X) → AllByRecursion P xs → AllByRecursion P (drop 1 xs)
fewer P [] all = tt
fewer P (x ∷ xs) all = all.1

sound_without : (lane : Lane) → IsSoundLane lane → IsSoundLane (without 1 lane)
sound_without lane sound = record {
  held = shorter lane.waiting sound.held;
  messages = fewer (λ (x : Sample). first_broken (message_checks lane.spec x.message) ≡ None) lane.waiting sound.messages;
  counts = fewer (λ (x : Sample). IsCount x.count) lane.waiting sound.counts;
  gaps = fewer (λ (x : Sample). IsSoundGap x.gap) lane.waiting sound.gaps;
  missed = sound.missed;
}
  where
    shorter : (xs : List Sample) → length xs ≤ lane.spec.capacity → length (drop 1 xs) ≤ lane.spec.capacity
    shorter [] few = few
    shorter (x ∷ xs) few = omega (arith, few)

-- counts climb without one of them
climb_without : (low : ℕ) (before : List ℕ) (xs : List ℕ) (high : ℕ) → Climbs low (before ++ xs) high → Climbs low (before ++ drop 1 xs) high
climb_without low [] [] high climbs = climbs
climb_without low [] (x ∷ xs) high climbs = raised x low xs high climbs.0 climbs.1
climb_without low (b ∷ before) xs high climbs = (climbs.0, climb_without b before xs high climbs.1)

counts_without : (xs : List Sample) → map (λ (x : Sample). x.count) (drop 1 xs) ≡ drop 1 (map (λ (x : Sample). x.count) xs)
counts_without [] = refl
counts_without (x ∷ xs) = refl

climbs_without_first : (files : List File) (lane : Lane) → LaneClimbs files lane → LaneClimbs files (without 1 lane)
climbs_without_first files lane climbs =
    subst (λ (ns : List ℕ). Climbs 0 (counts_on lane.spec.id files ++ ns) (count_or_0 lane.last)) (sym (counts_without lane.waiting))
    (climb_without 0 (counts_on lane.spec.id files) (map (λ (x : Sample). x.count) lane.waiting) (count_or_0 lane.last) climbs)

-- ---- a machine without it

sound_on : (s : Config) (m : Machine) (channel : ℕ) → IsSound s m → IsSound s (with_lane channel (without 1) m)
sound_on s m channel sound = record {
  channels = same_specs (is_channel channel) (without 1) (λ lane. refl) m.lanes ∙ sound.channels;
  lanes = changed_all IsSoundLane (is_channel channel) (without 1) m.lanes sound.lanes (λ lane there here. sound_without lane here);
  tick = sound.tick;
  event = sound.event;
  most = sound.most;
  shown = sound.shown;
  generation = sound.generation;
  cursors = sound.cursors;
  work = work_moved m.mode s m (with_lane channel (without 1) m) sound.work (λ work. record {
    recording = work.recording;
    own = work.own;
    others = work.others;
    lanes = changed_all (LaneClimbs m.files) (is_channel channel) (without 1) m.lanes work.lanes (λ lane there here. climbs_without_first m.files lane here);
    times = work.times;
    events = work.events;
  });
}

counted_without : (channel : ℕ) (files : List File) (specs : List ChannelSpec) (taken erased : List ℕ) (lanes : List Lane)
    → LanesAreCounted files specs taken erased lanes → LanesAreCounted files specs taken erased (change_first (is_channel channel) (without 1) lanes)
counted_without channel files [] [] [] [] are = tt
counted_without channel files (x ∷ specs) (t ∷ taken) (e ∷ erased) (l ∷ lanes) are = by (is_channel channel l) (counted_without channel files specs taken erased lanes are.1)
  where
    by : (b : Bool) → LanesAreCounted files specs taken erased (change_first (is_channel channel) (without 1) lanes)
        → LanesAreCounted files (x ∷ specs) (t ∷ taken) (e ∷ erased) (cond b (without 1 l ∷ lanes) (l ∷ change_first (is_channel channel) (without 1) lanes))
    by true rest = (record { spec_is = are.0.spec_is; erased_is = are.0.erased_is; taken_is = are.0.taken_is }, are.1)
    by false rest = (are.0, rest)
counted_without channel files [] [] [] (l ∷ lanes) are = absurd are
counted_without channel files [] [] (e ∷ erased) lanes are = absurd are
counted_without channel files [] (t ∷ taken) erased lanes are = absurd are
counted_without channel files (x ∷ specs) [] erased lanes are = absurd are
counted_without channel files (x ∷ specs) (t ∷ taken) [] lanes are = absurd are
counted_without channel files (x ∷ specs) (t ∷ taken) (e ∷ erased) [] are = absurd are

numbers_without : (channel : ℕ) (k : Kept) (w : Work) (m : Machine) → NumbersAre (record k { work = w }) m → NumbersAre (record k { work = w }) (with_lane channel (without 1) m)
numbers_without channel k unmounted m (a, b, c, d) = (a, b, counted_without channel m.files k.config.channels k.taken k.erased m.lanes c, d)
numbers_without channel k (idle chain) m (a, b, c, d) = (a, b, counted_without channel m.files k.config.channels k.taken k.erased m.lanes c, d)
numbers_without channel k (recording chain o) m (a, b, c, d) = (a, b, counted_without channel m.files k.config.channels k.taken k.erased m.lanes c, d)
numbers_without channel k failed m numbers = tt

pub stands_without : (k : Kept) (image : Image) (n channel : ℕ) (old new : List Lane) → new ≡ change_first (is_channel channel) (without 1) old → StandsWithout channel k image n old new
stands_without k image n channel old new made = λ m means are. (
  record {
    mode = means.mode;
    tick = means.tick;
    counted = means.counted;
    files = means.files;
    numbers = numbers_without channel k k.work m means.numbers;
    sound = sound_on k.config m channel means.sound;
  },
  made ∙ ap (change_first (is_channel channel) (without 1)) are ∙ changed_in channel (without 1) (λ l. refl) m.lanes,
)

-- ---- the lane that gives it

pub took_without : (first : Option Sample) (old new : Lane) → first ≡ slice_get old.waiting 0
    → MatchOption first (TookWaiting old [] new) (λ x. TookWaiting old (x ∷ []) new) → new ≡ without 1 old
took_without (Some x) old new is took = took.others ∙ ap (λ (xs : List Sample). record old { waiting = drop 1 xs }) (sym took.front)
took_without None old new is took = took.others ∙ ap (λ (xs : List Sample). record old { waiting = xs }) (sym took.front ∙ nothing old.waiting is)
  where
    nothing : (xs : List Sample) → None ≡ slice_get xs 0 → xs ≡ drop 1 xs
    nothing [] is = refl
    nothing (x ∷ xs) is = cc

pub took_spec : (first : Option Sample) (old new : Lane) → MatchOption first (TookWaiting old [] new) (λ x. TookWaiting old (x ∷ []) new) → new.spec ≡ old.spec
took_spec (Some x) old new took = ap (λ (l : Lane). l.spec) took.others
took_spec None old new took = ap (λ (l : Lane). l.spec) took.others

pub took_reaches : (first : Option Sample) (old new : Lane) → MatchOption first (TookWaiting old [] new) (λ x. TookWaiting old (x ∷ []) new) → reached old ≤ reached new
took_reaches (Some x) old new took = took.rises
took_reaches None old new took = took.rises

pub takes_at : (channel : ℕ) (lanes : List Lane) (i : ℕ) (old new : Lane) (first : Option Sample) → position (is_channel channel) lanes ≡ Some i → old ≡ get_or lanes i old
    → first ≡ slice_get old.waiting 0 → new ≡ without 1 old → TakesWaiting channel lanes (Ok first) (set lanes i new)
takes_at channel lanes i old new first is here given made =
    let at = is_at (is_channel channel) lanes i old is here in
    rw at.found (refl, given, ap (set lanes i) made ∙ sym (at.changed (without 1)))

pub taking_stands : (k : Kept) (image : Image) (n channel : ℕ) (old new : List Lane) (result : Result (Option Sample) Refusal) → TakesWaiting channel old result new → IfOk result (λ first. StandsWithout channel k image n old new)
taking_stands k image n channel old new (Ok first) takes = stands_without k image n channel old new takes.2
taking_stands k image n channel old new (Err r) takes = tt
