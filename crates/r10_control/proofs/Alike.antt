-- From machines that represent lanes of any kind to the one in whose lanes what was taken waits.
use Rattle.std.proofs.Common.{◌≡◌, ℕ, ◌+◌, ◌≤◌, Bool, true, false, cond, ◌==◌, List, [], ◌∷◌, ◌++◌, length, map, drop, count_by, Option, None, Some, Result, Ok, Err, ◌⊎◌, inl, inr, refl, sym, ap, subst, ◌∙◌, arith}
use Rattle.std.specs.Prelude.{IfSome, MatchResult}
use Rattle.std.specs.List.{AllByRecursion, sum_by}
use Rattle.std.proofs.lemmas.Bool.{eq-eqb, ne_eqb}
use Rattle.std.proofs.lemmas.Grind.{flat_map-append}
use Rattle.std.proofs.lemmas.List.{append-nil, append_assoc, map-append}
use Rattle.std.proofs.lemmas.List.Sums.{sum_by-append, sum_by-cons}
use Rattle.r10_count.specs.Checks.{first_broken}
use Rattle.r10_body.specs.declared.entry.Sample.{Sample}
use Rattle.r10_body.specs.declared.refusal.Refusal.{Refusal}
use Rattle.r10_body.specs.declared.refusal.Refusal.TheVariants.{Medium}
use Rattle.r10_body.specs.declared.spec.ChannelSpec.{ChannelSpec}
use Rattle.r10_lane.specs.Lanes.{Gives, counts_of}
use Rattle.r10_lane.proofs.Waiting.{raised}
use Rattle.r10_machine.specs.Calls.{without}
use Rattle.r10_machine.specs.Checks.{message_checks}
use Rattle.r10_machine.specs.Config.{Config}
use Rattle.r10_machine.specs.Limits.{IsConfig}
use Rattle.r10_machine.specs.Machine.{File, Lane, Machine, fresh_lane}
use Rattle.r10_machine.specs.Sound.{IsSoundWork, SoundWork}
use Rattle.r10_machine.specs.SoundParts.{Climbs, IsSoundLane, LaneClimbs, count_or_0, counts_on}
use Rattle.r10_machine.specs.declared.mode.Mode.{Mode}
use Rattle.r10_machine.specs.declared.mode.Mode.TheVariants as modes
use Rattle.r10_machine.specs.declared.event.Event.{Event as EventValue}
use Rattle.r10_machine.specs.declared.reply.Reply.{Reply as ReplyValue}
use Rattle.r10_machine.specs.declared.reply.Reply.TheVariants.{Refused}
use Rattle.r10_refinement.specs.KeptState.{Kept, Work, unmounted, idle, recording, failed}
use Rattle.r10_refinement.specs.Means.{KeptStandsFor, LaneIsCounted, LanesAreCounted, NumbersAre}
use Rattle.r10_medium.specs.Disk.{Image}
use Rattle.r10_openfile.specs.Machines.{HasWaiting}
use Rattle.r10_openfile.specs.Stopping.{ChannelsAreApart, Part, TellsWaiting, TookAll, most_of, samples_on}
use Rattle.r10_openfile.proofs.AllLanes.{none_of}
use Rattle.r10_openfile.proofs.Fitting.{drop_front}
use Rattle.r10_openfile.proofs.Stops.{few_on}
use Rattle.r10_control.specs.Leading.{AreLeft, KeptStepsTaking, none_taken}
use Rattle.r10_control.specs.RepresentedLanes.{IsReachedBy, StandFor, StaysShared, StepsAlike, StepsWith, last_behind, lanes_with, machine_with_lanes, lane_with_taken}
use Rattle.r10_control.specs.Taking.{NoneBehind, StepsByTaking, taken_of}
use Rattle.r10_control.proofs.Apart.{apart_of}

-- ---- counts

climbs_front : (low : ℕ) (xs ys : List ℕ) (high : ℕ) → Climbs low (xs ++ ys) high → Climbs low xs high
climbs_front low [] [] high climbs = climbs
climbs_front low [] (y ∷ ys) high (first, climbs) = omega (arith, first, climbs_front y [] ys high climbs)
climbs_front low (x ∷ xs) ys high (first, climbs) = (first, climbs_front x xs ys high climbs)

climbs_joined : (low mid high : ℕ) (xs ys : List ℕ) → Climbs low xs mid → Climbs mid ys high → Climbs low (xs ++ ys) high
climbs_joined low mid high [] ys first second = raised mid low ys high first second
climbs_joined low mid high (x ∷ xs) ys (here, first) second = (here, climbs_joined x mid high xs ys first second)

climbs_behind : (last : Option ℕ) (low : ℕ) (xs : List Sample) (high : ℕ) → count_or_0 last ≤ low → Climbs low (counts_of xs) high → Climbs (count_or_0 last) (counts_of xs) (count_or_0 (last_behind last xs))
climbs_behind last low [] high less climbs = omega arith
climbs_behind last low (x ∷ xs) high less (first, climbs) = (omega (arith, less, first), climbs_behind (Some x.count) x.count xs high (omega arith) climbs)

last_reached : (last : Option ℕ) (low : ℕ) (xs : List Sample) (high : ℕ) → count_or_0 last ≤ low → Climbs low (counts_of xs) high → count_or_0 (last_behind last xs) ≤ high
last_reached last low [] high less climbs = omega (arith, less, climbs)
last_reached last low (x ∷ xs) high less (first, climbs) = last_reached (Some x.count) x.count xs high (omega arith) climbs

-- ---- one lane

pub same_spec : (o : Option (List Sample)) (xs : List Sample) (a : Lane) → (lane_with_taken o xs a).spec ≡ a.spec
same_spec None xs a = refl
same_spec (Some waiting) xs a = refl

pub sound_lane : (o : Option (List Sample)) (xs : List Sample) (a : Lane) (spec : ChannelSpec) (low high : ℕ) → a.spec ≡ spec → Gives spec low xs high → length xs ≤ spec.capacity → IsSoundLane a → IsSoundLane (lane_with_taken o xs a)
sound_lane None xs a spec low high same gives few sound = record {
  held = omega (arith, few, ap (λ (s : ChannelSpec). s.capacity) same);
  messages = subst (λ (s : ChannelSpec). AllByRecursion (λ (x : Sample). first_broken (message_checks s x.message) ≡ None) xs) (sym same) gives.passes;
  counts = gives.counts;
  gaps = gives.gaps;
  missed = sound.missed;
}
sound_lane (Some waiting) xs a spec low high same gives few sound = sound

pub climbs_lane : (o : Option (List Sample)) (files : List File) (xs : List Sample) (a : Lane) (spec : ChannelSpec) (low high : ℕ) → IsReachedBy o low a → Gives spec low xs high → LaneClimbs files a → LaneClimbs files (lane_with_taken o xs a)
climbs_lane None files xs a spec low high stands gives climbs =
    climbs_joined 0 (count_or_0 a.last) (count_or_0 (last_behind a.last xs)) (counts_on a.spec.id files) (counts_of xs)
    (climbs_front 0 (counts_on a.spec.id files) (counts_of a.waiting) (count_or_0 a.last) climbs) (climbs_behind a.last low xs high stands gives.climbs)
climbs_lane (Some waiting) files xs a spec low high stands gives climbs = climbs

waits_lane : (o : Option (List Sample)) (xs : List Sample) (a : Lane) (low : ℕ) (id : ℕ) (p : Part) → a.spec.id ≡ id → IsReachedBy o low a → (id ≡ p.channel → IfSome o (λ waiting. waiting ≡ p.samples ++ p.rest)) → (id ≡ p.channel → o ≡ None → p.rest ≡ [])
    → (id ≡ p.channel → xs ≡ p.samples) → (lane_with_taken o xs a).spec.id ≡ p.channel → (lane_with_taken o xs a).waiting ≡ p.samples ++ p.rest
waits_lane None xs a low id p same stands tells bare own is =
    let here : id ≡ p.channel = sym same ∙ is in
    own here ∙ sym (ap (λ (ys : List Sample). p.samples ++ ys) (bare here refl) ∙ append-nil p.samples)
waits_lane (Some waiting) xs a low id p same stands tells bare own is = stands ∙ tells (sym same ∙ is)

after_lane : (o o' : Option (List Sample)) (xs : List Sample) (a b : Lane) (low high n erased : ℕ) → IsReachedBy o low a → Climbs low (counts_of xs) high → n ≡ length xs → (o ≡ None → o' ≡ None)
    → ((waiting : List Sample) → o ≡ Some waiting → (rest : List Sample) × (o' ≡ Some rest) × (waiting ≡ xs ++ rest)) → b ≡ record (without n (lane_with_taken o xs a)) { erased = erased } → IsReachedBy o' high b
after_lane None o' xs a b low high n erased stands climbs number shared stays is =
    rw (shared refl) (omega (arith, last_reached a.last low xs high stands climbs, ap (λ (l : Lane). count_or_0 l.last) is))
after_lane (Some waiting) o' xs a b low high n erased stands climbs number shared stays is =
    let (rest, later, front) = stays waiting refl in
    rw later (ap (λ (l : Lane). l.waiting) is ∙ ap (λ (k : ℕ). drop k a.waiting) number ∙ ap (drop (length xs)) (stands ∙ front) ∙ drop_front xs rest)

-- ---- parts that are each of a channel of its own

abbrev pub channels_of : List Part → List ℕ
channels_of parts = map (λ (p : Part). p.channel) parts

own_part : (front : List Part) (p : Part) (parts : List Part) → count_by (λ c. c == p.channel) (channels_of (front ++ p ∷ parts)) ≤ 1 → samples_on p.channel (front ++ p ∷ parts) ≡ p.samples
own_part front p parts few =
    let channel : ℕ = p.channel in
    let weight : ℕ → ℕ = λ c. cond (c == channel) 1 0 in
    let here : weight channel ≡ 1 = ap (λ (t : Bool). cond t 1 0) (eq-eqb channel channel refl) in
    let all : count_by (λ c. c == channel) (channels_of (front ++ p ∷ parts)) ≡ count_by (λ c. c == channel) (channels_of front) + 1 + count_by (λ c. c == channel) (channels_of parts) =
    omega (
      arith,
      ap (count_by (λ c. c == channel)) (map-append (λ (q : Part). q.channel) front (p ∷ parts)),
      sum_by-append weight (channels_of front) (channels_of (p ∷ parts)),
      sum_by-cons weight channel (channels_of parts),
      here,
    ) in
    let before : samples_on channel front ≡ [] = none_of channel front (omega (arith, all, few)) in
    let behind : samples_on channel parts ≡ [] = none_of channel parts (omega (arith, all, few)) in
    flat_map-append (λ (q : Part). cond (channel == q.channel) q.samples []) front (p ∷ parts)
    ∙ ap (λ (xs : List Sample). xs ++ samples_on channel (p ∷ parts)) before
    ∙ ap (λ (t : Bool). cond t p.samples [] ++ samples_on channel parts) (eq-eqb channel channel refl)
    ∙ ap (λ (xs : List Sample). p.samples ++ xs) behind
    ∙ append-nil p.samples

pub own_parts : (front parts : List Part) → ((channel : ℕ) → count_by (λ c. c == channel) (channels_of (front ++ parts)) ≤ 1) → AllByRecursion (λ (p : Part). samples_on p.channel (front ++ parts) ≡ p.samples) parts
own_parts front [] few = tt
own_parts front (p ∷ parts) few =
    let seam : (front ++ p ∷ []) ++ parts ≡ front ++ p ∷ parts = append_assoc front (p ∷ []) parts in (
      own_part front p parts (few p.channel),
      subst (λ (ps : List Part). AllByRecursion (λ (q : Part). samples_on q.channel ps ≡ q.samples) parts) seam
          (own_parts (front ++ p ∷ []) parts (λ channel. subst (λ (ps : List Part). count_by (λ c. c == channel) (channels_of ps) ≤ 1) (sym seam) (few channel))),
    )

-- one channel comes once
pub once_alone : (one channel : ℕ) → count_by (λ c. c == channel) (one ∷ []) ≤ 1
once_alone one channel = by (one == channel) (sum_by-cons (λ (c : ℕ). cond (c == channel) 1 0) one [])
  where
    by : (t : Bool) → count_by (λ c. c == channel) (one ∷ []) ≡ cond t 1 0 + sum_by (λ (c : ℕ). cond (c == channel) 1 0) [] → count_by (λ c. c == channel) (one ∷ []) ≤ 1
    by true is = omega (arith, is)
    by false is = omega (arith, is)

-- ---- where nothing is taken

module _ {L : Type 0} (quiet : L → Option (List Sample)) (reached : L → ℕ) (spec_of : L → ChannelSpec) where
  pub first_stand : (lanes : List L) → AllByRecursion (λ (x : L). IfSome (quiet x) (λ waiting. waiting ≡ [])) lanes → StandFor quiet reached spec_of lanes (map fresh_lane (map spec_of lanes))
  first_stand [] none = tt
  first_stand (x ∷ lanes) (none, more) = (refl, by (quiet x) none, first_stand lanes more)
    where
      by : (o : Option (List Sample)) → IfSome o (λ waiting. waiting ≡ []) → IsReachedBy o (reached x) (fresh_lane (spec_of x))
      by None none = omega arith
      by (Some waiting) none = sym none

  pub still_stand : (lanes : List L) (machines later : List Lane) → StandFor quiet reached spec_of lanes machines → AreLeft none_taken machines later → StandFor quiet reached spec_of lanes later
  still_stand [] [] [] stands left = tt
  still_stand [] [] (b ∷ later) stands left = absurd left
  still_stand [] (a ∷ machines) later stands left = absurd stands
  still_stand (x ∷ lanes) [] later stands left = absurd stands
  still_stand (x ∷ lanes) (a ∷ machines) [] stands left = absurd left
  still_stand (x ∷ lanes) (a ∷ machines) (b ∷ later) (same, here, stands) (is, left) = (ap (λ (l : Lane). l.spec) is ∙ same, by (quiet x) here, still_stand lanes machines later stands left)
    where
      by : (o : Option (List Sample)) → IsReachedBy o (reached x) a → IsReachedBy o (reached x) b
      by None here = omega (arith, here, ap (λ (l : Lane). count_or_0 l.last) is)
      by (Some waiting) here = ap (λ (l : Lane). l.waiting) is ∙ here

-- ---- all lanes

module _ {L : Type 0} (took : L → List Sample → L → Type 0) (quiet : L → Option (List Sample)) (reached : L → ℕ) (spec_of : L → ChannelSpec) (keeps : (a b : L) (xs : List Sample) → took a xs b → spec_of b ≡ spec_of a)
    (gives : (a b : L) (xs : List Sample) → took a xs b → Gives (spec_of a) (reached a) xs (reached b))
    (stays : (a b : L) (xs waiting : List Sample) → took a xs b → quiet a ≡ Some waiting → (rest : List Sample) × (quiet b ≡ Some rest) × (waiting ≡ xs ++ rest)) where
  pub specs_are : (lanes : List L) (machines : List Lane) → StandFor quiet reached spec_of lanes machines → map (λ (l : Lane). l.spec) machines ≡ map spec_of lanes
  specs_are [] [] stands = refl
  specs_are [] (a ∷ machines) stands = absurd stands
  specs_are (x ∷ lanes) [] stands = absurd stands
  specs_are (x ∷ lanes) (a ∷ machines) (same, here, stands) = ap (λ (s : ChannelSpec). s ∷ map (λ (l : Lane). l.spec) machines) same ∙ ap (λ (ss : List ChannelSpec). spec_of x ∷ ss) (specs_are lanes machines stands)

  pub specs_stay : (parts : List Part) (lanes : List L) (machines : List Lane) → map (λ (l : Lane). l.spec) (lanes_with quiet spec_of parts lanes machines) ≡ map (λ (l : Lane). l.spec) machines
  specs_stay parts [] machines = refl
  specs_stay parts (x ∷ lanes) [] = refl
  specs_stay parts (x ∷ lanes) (a ∷ machines) =
      ap (λ (s : ChannelSpec). s ∷ map (λ (l : Lane). l.spec) (lanes_with quiet spec_of parts lanes machines)) (same_spec (quiet x) (samples_on (spec_of x).id parts) a)
      ∙ ap (λ (ss : List ChannelSpec). a.spec ∷ ss) (specs_stay parts lanes machines)

  sound_lanes : (parts : List Part) (lanes lanes' : List L) (machines : List Lane) → StandFor quiet reached spec_of lanes machines → TookAll took spec_of parts lanes lanes' → AllByRecursion (λ (x : L). length (samples_on (spec_of x).id parts) ≤ (spec_of x).capacity) lanes
      → AllByRecursion IsSoundLane machines → AllByRecursion IsSoundLane (lanes_with quiet spec_of parts lanes machines)
  sound_lanes parts [] lanes' machines stands took_all few sound = sound
  sound_lanes parts (x ∷ lanes) lanes' [] stands took_all few sound = sound
  sound_lanes parts (x ∷ lanes) [] (a ∷ machines) stands took_all few sound = absurd took_all
  sound_lanes parts (x ∷ lanes) (y ∷ lanes') (a ∷ machines) (same, here, stands) (gave, took_all) few sound = (
    sound_lane (quiet x) (samples_on (spec_of x).id parts) a (spec_of x) (reached x) (reached y) same (gives x y (samples_on (spec_of x).id parts) gave) few.0 sound.0,
    sound_lanes parts lanes lanes' machines stands took_all few.1 sound.1,
  )

  climb_all : (parts : List Part) (files : List File) (lanes lanes' : List L) (machines : List Lane) → StandFor quiet reached spec_of lanes machines → TookAll took spec_of parts lanes lanes'
      → AllByRecursion (LaneClimbs files) machines → AllByRecursion (LaneClimbs files) (lanes_with quiet spec_of parts lanes machines)
  climb_all parts files [] lanes' machines stands took_all climbs = climbs
  climb_all parts files (x ∷ lanes) lanes' [] stands took_all climbs = climbs
  climb_all parts files (x ∷ lanes) [] (a ∷ machines) stands took_all climbs = absurd took_all
  climb_all parts files (x ∷ lanes) (y ∷ lanes') (a ∷ machines) (same, here, stands) (gave, took_all) climbs = (
    climbs_lane (quiet x) files (samples_on (spec_of x).id parts) a (spec_of x) (reached x) (reached y) here (gives x y (samples_on (spec_of x).id parts) gave) climbs.0,
    climb_all parts files lanes lanes' machines stands took_all climbs.1,
  )

  pub counted_all : (parts : List Part) (files : List File) (lanes : List L) (specs : List ChannelSpec) (taken erased : List ℕ) (machines : List Lane) → LanesAreCounted files specs taken erased machines → LanesAreCounted files specs taken erased (lanes_with quiet spec_of parts lanes machines)
  counted_all parts files [] specs taken erased machines are = are
  counted_all parts files (x ∷ lanes) specs taken erased [] are = are
  counted_all parts files (x ∷ lanes) [] [] [] (a ∷ machines) are = absurd are
  counted_all parts files (x ∷ lanes) [] [] (e ∷ erased) (a ∷ machines) are = absurd are
  counted_all parts files (x ∷ lanes) [] (t ∷ taken) erased (a ∷ machines) are = absurd are
  counted_all parts files (x ∷ lanes) (s ∷ specs) [] erased (a ∷ machines) are = absurd are
  counted_all parts files (x ∷ lanes) (s ∷ specs) (t ∷ taken) [] (a ∷ machines) are = absurd are
  counted_all parts files (x ∷ lanes) (s ∷ specs) (t ∷ taken) (e ∷ erased) (a ∷ machines) (one, are) = (by (quiet x), counted_all parts files lanes specs taken erased machines are)
    where
      by : (o : Option (List Sample)) → LaneIsCounted files s t e (lane_with_taken o (samples_on (spec_of x).id parts) a)
      by None = record { spec_is = one.spec_is; erased_is = one.erased_is; taken_is = one.taken_is }
      by (Some waiting) = one

  waits_all : (whole : List Part) (p : Part) (lanes : List L) (machines : List Lane) → StandFor quiet reached spec_of lanes machines → TellsWaiting quiet spec_of lanes p → NoneBehind quiet spec_of lanes p → samples_on p.channel whole ≡ p.samples
      → HasWaiting (lanes_with quiet spec_of whole lanes machines) p
  waits_all whole p [] [] stands tells bare own = tt
  waits_all whole p [] (a ∷ machines) stands tells bare own = absurd stands
  waits_all whole p (x ∷ lanes) [] stands tells bare own = absurd stands
  waits_all whole p (x ∷ lanes) (a ∷ machines) (same, here, stands) tells bare own = (
    waits_lane (quiet x) (samples_on (spec_of x).id whole) a (reached x) (spec_of x).id p (ap (λ (s : ChannelSpec). s.id) same) here tells.0 bare.0 (λ id. ap (λ (c : ℕ). samples_on c whole) id ∙ own),
    waits_all whole p lanes machines stands tells.1 bare.1 own,
  )

  pub wait_all : (whole parts : List Part) (lanes : List L) (machines : List Lane) → StandFor quiet reached spec_of lanes machines → AllByRecursion (TellsWaiting quiet spec_of lanes) parts → AllByRecursion (NoneBehind quiet spec_of lanes) parts
      → AllByRecursion (λ (p : Part). samples_on p.channel whole ≡ p.samples) parts → AllByRecursion (HasWaiting (lanes_with quiet spec_of whole lanes machines)) parts
  wait_all whole [] lanes machines stands tells bare own = tt
  wait_all whole (p ∷ parts) lanes machines stands tells bare own = (waits_all whole p lanes machines stands tells.0 bare.0 own.0, wait_all whole parts lanes machines stands tells.1 bare.1 own.1)

  pub stand_after : StaysShared took quiet → (parts : List Part) (lanes lanes' : List L) (machines later : List Lane) → StandFor quiet reached spec_of lanes machines → TookAll took spec_of parts lanes lanes'
      → AreLeft (taken_of parts) (lanes_with quiet spec_of parts lanes machines) later → StandFor quiet reached spec_of lanes' later
  stand_after shared parts [] [] [] [] stands took_all left = tt
  stand_after shared parts [] [] [] (b ∷ later) stands took_all left = absurd left
  stand_after shared parts [] [] (a ∷ machines) later stands took_all left = absurd stands
  stand_after shared parts [] (y ∷ lanes') machines later stands took_all left = absurd took_all
  stand_after shared parts (x ∷ lanes) [] machines later stands took_all left = absurd took_all
  stand_after shared parts (x ∷ lanes) (y ∷ lanes') [] later stands took_all left = absurd stands
  stand_after shared parts (x ∷ lanes) (y ∷ lanes') (a ∷ machines) [] stands took_all left = absurd left
  stand_after shared parts (x ∷ lanes) (y ∷ lanes') (a ∷ machines) (b ∷ later) (same, here, stands) (gave, took_all) (is, left) =
      let xs : List Sample = samples_on (spec_of x).id parts in
      let spec : (lane_with_taken (quiet x) xs a).spec ≡ spec_of x = same_spec (quiet x) xs a ∙ same in (
        ap (λ (l : Lane). l.spec) is ∙ spec ∙ sym (keeps x y xs gave),
        after_lane (quiet x) (quiet y) xs a b (reached x) (reached y) (taken_of parts (lane_with_taken (quiet x) xs a).spec.id) b.erased here (gives x y xs gave).climbs
            (ap (λ (s : ChannelSpec). length (samples_on s.id parts)) spec) (λ none. shared x y xs gave none) (λ waiting quiet_is. stays x y xs waiting gave quiet_is) is,
        stand_after shared parts lanes lanes' machines later stands took_all left,
      )

  -- ---- what each lane has room for

  most_behind : (spec : ChannelSpec) (specs : List ChannelSpec) (lanes : List L) → AllByRecursion (λ (other : ChannelSpec). other.id ≡ spec.id → ⊥) (map spec_of lanes) → AllByRecursion (λ (x : L). most_of specs (spec_of x).id ≡ (spec_of x).capacity) lanes
      → AllByRecursion (λ (x : L). most_of (spec ∷ specs) (spec_of x).id ≡ (spec_of x).capacity) lanes
  most_behind spec specs [] differ most = tt
  most_behind spec specs (x ∷ lanes) differ most = (rw (most_of, ne_eqb spec.id (spec_of x).id (λ same. differ.0 (sym same))) most.0, most_behind spec specs lanes differ.1 most.1)

  pub most_each : (lanes : List L) → ChannelsAreApart (map spec_of lanes) → AllByRecursion (λ (x : L). most_of (map spec_of lanes) (spec_of x).id ≡ (spec_of x).capacity) lanes
  most_each [] apart = tt
  most_each (x ∷ lanes) apart = (rw (most_of, eq-eqb (spec_of x).id (spec_of x).id refl) refl, most_behind (spec_of x) (map spec_of lanes) lanes apart.0 (most_each lanes apart.1))

  pub few_each : (parts : List Part) (specs : List ChannelSpec) (lanes : List L) → ((channel : ℕ) → length (samples_on channel parts) ≤ most_of specs channel) → AllByRecursion (λ (x : L). most_of specs (spec_of x).id ≡ (spec_of x).capacity) lanes
      → AllByRecursion (λ (x : L). length (samples_on (spec_of x).id parts) ≤ (spec_of x).capacity) lanes
  few_each parts specs [] few most = tt
  few_each parts specs (x ∷ lanes) few most = (omega (arith, few (spec_of x).id, most.0), few_each parts specs lanes few most.1)

  -- ---- the machine

  pub numbers_stay : (k : Kept) (m : Machine) (lanes : List Lane) → (LanesAreCounted m.files k.config.channels k.taken k.erased m.lanes → LanesAreCounted m.files k.config.channels k.taken k.erased lanes) → NumbersAre k m → NumbersAre k (machine_with_lanes lanes m)
  numbers_stay k m lanes counted numbers = by k.work numbers
    where
      by : (w : Work) → NumbersAre (record k { work = w }) m → NumbersAre (record k { work = w }) (machine_with_lanes lanes m)
      by unmounted (event, generation, are, own) = (event, generation, counted are, own)
      by (idle chain) (event, generation, are, own) = (event, generation, counted are, own)
      by (recording chain o) (event, generation, are, own) = (event, generation, counted are, own)
      by failed are = tt

  pub work_sound : (s : Config) (m : Machine) (lanes : List Lane) → (AllByRecursion (LaneClimbs m.files) m.lanes → AllByRecursion (LaneClimbs m.files) lanes) → SoundWork m.mode s m → SoundWork m.mode s (machine_with_lanes lanes m)
  work_sound s m lanes climb sound = by m.mode sound
    where
      works : IsSoundWork s m → IsSoundWork s (machine_with_lanes lanes m)
      works was = record { recording = was.recording; own = was.own; others = was.others; lanes = climb was.lanes; times = was.times; events = was.events }

      by : (mode : Mode) → SoundWork mode s m → SoundWork mode s (machine_with_lanes lanes m)
      by modes.Failed was = tt
      by modes.Unmounted was = works was
      by modes.Idle was = works was
      by modes.Recording was = works was

  -- with what was taken waiting in its lanes it is represented too
  pub meant_with : (k : Kept) (image : Image) (failures : ℕ) (m : Machine) (parts : List Part) (lanes lanes' : List L) → KeptStandsFor k image failures m → StandFor quiet reached spec_of lanes m.lanes → TookAll took spec_of parts lanes lanes'
      → AllByRecursion (λ (x : L). length (samples_on (spec_of x).id parts) ≤ (spec_of x).capacity) lanes → KeptStandsFor k image failures (machine_with_lanes (lanes_with quiet spec_of parts lanes m.lanes) m)
  meant_with k image failures m parts lanes lanes' means stands took_all few =
      let sound = means.sound in
      let now : List Lane = lanes_with quiet spec_of parts lanes m.lanes in
      record {
        mode = means.mode;
        tick = means.tick;
        counted = means.counted;
        files = means.files;
        numbers = numbers_stay k m now (counted_all parts m.files lanes k.config.channels k.taken k.erased m.lanes) means.numbers;
        sound = record {
          channels = specs_stay parts lanes m.lanes ∙ sound.channels;
          lanes = sound_lanes parts lanes lanes' m.lanes stands took_all few sound.lanes;
          tick = sound.tick;
          event = sound.event;
          most = sound.most;
          shown = sound.shown;
          generation = sound.generation;
          cursors = sound.cursors;
          work = work_sound k.config m now (climb_all parts m.files lanes lanes' m.lanes stands took_all) sound.work;
        };
      }

  each_result : {T E : Type 0} (result : Result T E) (P P' : T → Type 0) (Q Q' : E → Type 0) → ((v : T) → P v → P' v) → ((e : E) → Q e → Q' e) → MatchResult result P Q → MatchResult result P' Q'
  each_result (Ok v) P P' Q Q' first second holds = first v holds
  each_result (Err e) P P' Q Q' first second holds = second e holds

  pub steps_alike : {T : Type 0} (order : List ℕ) (most : ℕ → ℕ) (says : T → List Part → Type 0) (bare : Result T Refusal → Type 0) (k : Kept) (old : Image) (before : ℕ) (event : EventValue) (reply : T → ReplyValue) (result : Result T Refusal)
      (later : Kept) (new : Image) (now : ℕ) (lanes lanes' : List L) → IsConfig k.config → ((channel : ℕ) → count_by (λ c. c == channel) order ≤ 1)
      → StepsByTaking took quiet spec_of order most says bare k old before event reply result later new now lanes lanes' → StepsAlike took quiet reached spec_of bare k old before event reply result later new now lanes lanes'
  steps_alike order most says bare k old before event reply result later new now lanes lanes' limits once takes is_bare shared m means stands =
      each_result result _ _ _ _ (λ v. by (reply v)) (λ r. by (Refused r)) (takes.steps (machine_with_lanes (lanes_with quiet spec_of takes.parts lanes m.lanes) m) meant waits)
    where
      each_once : (channel : ℕ) → count_by (λ c. c == channel) (channels_of takes.parts) ≤ 1
      each_once channel =
          omega (arith, once channel, ap (count_by (λ c. c == channel)) takes.order_is, sum_by-append (λ (c : ℕ). cond (c == channel) 1 0) (channels_of takes.parts) takes.passed)

      apart : ChannelsAreApart (map spec_of lanes)
      apart = subst ChannelsAreApart (sym means.sound.channels ∙ specs_are lanes m.lanes stands) (apart_of k.config limits).lanes

      few : AllByRecursion (λ (x : L). length (samples_on (spec_of x).id takes.parts) ≤ (spec_of x).capacity) lanes
      few = few_each takes.parts (map spec_of lanes) lanes (λ channel. few_on (map spec_of lanes) takes.parts channel (each_once channel) takes.few) (most_each lanes apart)

      meant : KeptStandsFor k old before (machine_with_lanes (lanes_with quiet spec_of takes.parts lanes m.lanes) m)
      meant = meant_with k old before m takes.parts lanes lanes' means stands takes.taken few

      told_so : (known : List Part) → (known ≡ takes.parts) ⊎ ((known ≡ []) × (result ≡ Err Medium)) → AllByRecursion (TellsWaiting quiet spec_of lanes) known → AllByRecursion (NoneBehind quiet spec_of lanes) known
          → AllByRecursion (HasWaiting (lanes_with quiet spec_of takes.parts lanes m.lanes)) known
      told_so known (inl all) tells none =
          wait_all takes.parts known lanes m.lanes stands tells none (subst (λ (ps : List Part). AllByRecursion (λ (p : Part). samples_on p.channel takes.parts ≡ p.samples) ps) (sym all) (own_parts [] takes.parts each_once))
      told_so known (inr (empty, is)) tells none = subst (λ (ps : List Part). AllByRecursion (HasWaiting (lanes_with quiet spec_of takes.parts lanes m.lanes)) ps) (sym empty) tt

      waits : AllByRecursion (HasWaiting (lanes_with quiet spec_of takes.parts lanes m.lanes)) takes.known
      waits = told_so takes.known takes.reported takes.waits (takes.rests is_bare)

      by : (said : ReplyValue) → KeptStepsTaking (taken_of takes.parts) k (machine_with_lanes (lanes_with quiet spec_of takes.parts lanes m.lanes) m) event said later new now
          → StepsWith took quiet reached spec_of k old before event said later new now lanes lanes' m
      by said leads = record {
        parts = takes.parts;
        taken = takes.taken;
        means = meant;
        leads = leads;
        stands = stand_after shared takes.parts lanes lanes' m.lanes leads.machine.lanes stands takes.taken leads.lanes;
      }
