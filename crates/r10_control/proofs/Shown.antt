-- From machines that represent lanes of any kind to the one in whose lane a sample waits that is shown.
use Rattle.std.proofs.Common.{◌≡◌, ℕ, ◌≤◌, Bool, true, false, cond, ◌==◌, List, [], ◌∷◌, ◌++◌, length, Option, None, Some, refl, sym, ap, subst, ◌∙◌, arith}
use Rattle.std.specs.Prelude.{IfSome, slice_get}
use Rattle.std.specs.List.{AllByRecursion}
use Rattle.std.proofs.lemmas.Bool.{eqb-true}
use Rattle.r10_count.specs.Checks.{first_broken}
use Rattle.r10_body.specs.declared.entry.Sample.{Sample}
use Rattle.r10_body.specs.declared.refusal.Refusal.{Refusal}
use Rattle.r10_body.specs.declared.spec.ChannelSpec.{ChannelSpec}
use Rattle.r10_lane.specs.Lanes.{Gives, counts_of}
use Rattle.r10_lane.specs.Laws.{gives_none}
use Rattle.r10_machine.specs.Checks.{recording_checks}
use Rattle.r10_machine.specs.Limits.{IsChannel}
use Rattle.r10_machine.specs.Machine.{File, Lane, Machine}
use Rattle.r10_machine.specs.SoundParts.{Climbs, IsSoundLane, LaneClimbs}
use Rattle.r10_machine.specs.declared.mode.Mode.{Mode}
use Rattle.r10_machine.specs.declared.mode.Mode.TheVariants as modes
use Rattle.r10_refinement.specs.KeptState.{Kept}
use Rattle.r10_refinement.specs.Means.{KeptStandsFor}
use Rattle.r10_medium.specs.Disk.{Image}
use Rattle.r10_openfile.specs.Machines.{HasWaiting}
use Rattle.r10_openfile.specs.Stopping.{Part, TellsWaiting, TookAll, samples_on}
use Rattle.r10_control.specs.RepresentedLanes.{IsReachedBy, MayGive, StandFor, StaysShared, WhereNoRoom, lanes_showing, machine_with_lanes, lane_with_taken}
use Rattle.r10_control.specs.Taking.{one_part}
use Rattle.r10_control.proofs.Alike.{climbs_lane, counted_all, numbers_stay, once_alone, own_parts, sound_lane, specs_stay, work_sound}

-- ---- refusals

same_refusal : (a b : Refusal) → Some a ≡ Some b → a ≡ b
same_refusal a b is = cc

-- a mode's check is none of room
pub mode_has_room : (mode : Mode) (r : Refusal) (P : Type 0) → first_broken (recording_checks mode) ≡ Some r → WhereNoRoom r P
mode_has_room modes.Failed r P is = subst (λ (x : Refusal). WhereNoRoom x P) (same_refusal _ r is) tt
mode_has_room modes.Unmounted r P is = subst (λ (x : Refusal). WhereNoRoom x P) (same_refusal _ r is) tt
mode_has_room modes.Idle r P is = subst (λ (x : Refusal). WhereNoRoom x P) (same_refusal _ r is) tt
mode_has_room modes.Recording r P is = absurd (cc)

-- ---- one lane

nothing : (t : Bool) → ◌≡◌ {A = List Sample} (cond t [] [] ++ []) []
nothing true = refl
nothing false = refl

pub nothing_on : (c channel : ℕ) (xs : List Sample) → xs ≡ [] → samples_on c (one_part channel xs [] ∷ []) ≡ []
nothing_on c channel xs none = ap (λ (ys : List Sample). samples_on c (one_part channel ys [] ∷ [])) none ∙ nothing (c == channel)

still_lane : (o o' : Option (List Sample)) (xs : List Sample) (a : Lane) (low high : ℕ) → IsReachedBy o low a → xs ≡ [] → Climbs low (counts_of xs) high → (o ≡ None → o' ≡ None)
    → ((waiting : List Sample) → o ≡ Some waiting → (rest : List Sample) × (o' ≡ Some rest) × (waiting ≡ xs ++ rest)) → IsReachedBy o' high a
still_lane None o' xs a low high stands none climbs shared stays =
    let rise : low ≤ high = subst (λ (ys : List Sample). Climbs low (counts_of ys) high) none climbs in
    rw (shared refl) (omega (arith, stands, rise))
still_lane (Some waiting) o' xs a low high stands none climbs shared stays =
    let (rest, later, front) = stays waiting refl in
    rw later (stands ∙ front ∙ ap (λ (ys : List Sample). ys ++ rest) none)

shown_lane : (o : Option (List Sample)) (xs : List Sample) (a : Lane) (low id channel : ℕ) (rest : List Sample) → a.spec.id ≡ id → IsReachedBy o low a → (id ≡ channel → IfSome o (λ waiting. waiting ≡ [] ++ rest)) → (id ≡ channel → o ≡ None → xs ≡ rest)
    → (lane_with_taken o xs a).spec.id ≡ channel → (lane_with_taken o xs a).waiting ≡ [] ++ rest
shown_lane None xs a low id channel rest same stands tells alone is = alone (sym same ∙ is) refl
shown_lane (Some waiting) xs a low id channel rest same stands tells alone is = stands ∙ tells (sym same ∙ is)

-- ---- all lanes

-- the first of what waits
pub front_all : (channel : ℕ) (first : Sample) (rest : List Sample) (machines : List Lane) → HasWaiting machines (one_part channel [] rest) → slice_get rest 0 ≡ Some first → AllByRecursion (λ (a : Lane). a.spec.id ≡ channel → slice_get a.waiting 0 ≡ Some first) machines
front_all channel first rest [] waits front = tt
front_all channel first rest (a ∷ machines) waits front = (λ is. ap (λ (xs : List Sample). slice_get xs 0) (waits.0 is) ∙ front, front_all channel first rest machines waits.1 front)

module _ {L : Type 0} (took : L → List Sample → L → Type 0) (quiet : L → Option (List Sample)) (reached : L → ℕ) (spec_of : L → ChannelSpec) (keeps : (a b : L) (xs : List Sample) → took a xs b → spec_of b ≡ spec_of a)
    (gives : (a b : L) (xs : List Sample) → took a xs b → Gives (spec_of a) (reached a) xs (reached b))
    (stays : (a b : L) (xs waiting : List Sample) → took a xs b → quiet a ≡ Some waiting → (rest : List Sample) × (quiet b ≡ Some rest) × (waiting ≡ xs ++ rest)) where
  -- lanes of which nothing was taken represent the same
  pub stand_shown : StaysShared took quiet → (parts : List Part) → ((c : ℕ) → samples_on c parts ≡ []) → (lanes lanes' : List L) (machines : List Lane) → StandFor quiet reached spec_of lanes machines → TookAll took spec_of parts lanes lanes'
      → StandFor quiet reached spec_of lanes' machines
  stand_shown shared parts none [] [] [] stands took_all = tt
  stand_shown shared parts none [] [] (a ∷ machines) stands took_all = absurd stands
  stand_shown shared parts none [] (y ∷ lanes') machines stands took_all = absurd took_all
  stand_shown shared parts none (x ∷ lanes) [] machines stands took_all = absurd took_all
  stand_shown shared parts none (x ∷ lanes) (y ∷ lanes') [] stands took_all = absurd stands
  stand_shown shared parts none (x ∷ lanes) (y ∷ lanes') (a ∷ machines) (same, here, stands) (gave, took_all) =
      let xs : List Sample = samples_on (spec_of x).id parts in (
        same ∙ sym (keeps x y xs gave),
        still_lane (quiet x) (quiet y) xs a (reached x) (reached y) here (none (spec_of x).id) (gives x y xs gave).climbs (λ is. shared x y xs gave is) (λ waiting is. stays x y xs waiting gave is),
        stand_shown shared parts none lanes lanes' machines stands took_all,
      )

  module _ (channel : ℕ) (first : Sample) where
    abbrev part : List Part
    part = one_part channel (first ∷ []) [] ∷ []

    on_channel : (id : ℕ) → id ≡ channel → samples_on id part ≡ first ∷ []
    on_channel id is = ap (λ (c : ℕ). samples_on c part) is ∙ (own_parts [] part (once_alone channel)).0

    gives_on : (x : L) → ((spec_of x).id ≡ channel → quiet x ≡ None → Gives (spec_of x) (reached x) (first ∷ []) first.count) → quiet x ≡ None → (top : ℕ) × Gives (spec_of x) (reached x) (samples_on (spec_of x).id part) top
    gives_on x may none = by ((spec_of x).id == channel) refl
      where
        by : (t : Bool) → ((spec_of x).id == channel) ≡ t → (top : ℕ) × Gives (spec_of x) (reached x) (cond t (first ∷ []) [] ++ []) top
        by true is = (first.count, may (eqb-true (spec_of x).id channel is) none)
        by false is = (reached x, gives_none (spec_of x) (reached x) (reached x) (omega arith))

    few_on : (x : L) → 1 ≤ (spec_of x).capacity → length (samples_on (spec_of x).id part) ≤ (spec_of x).capacity
    few_on x room = by ((spec_of x).id == channel)
      where
        by : (t : Bool) → length (cond t (first ∷ []) [] ++ []) ≤ (spec_of x).capacity
        by true = omega (arith, room)
        by false = omega arith

    sound_shown : (lanes : List L) (machines : List Lane) → StandFor quiet reached spec_of lanes machines → MayGive quiet reached spec_of channel first lanes → AllByRecursion (λ (x : L). IsChannel (spec_of x)) lanes → AllByRecursion IsSoundLane machines
        → AllByRecursion IsSoundLane (lanes_showing quiet spec_of channel first lanes machines)
    sound_shown [] machines stands may channels sound = sound
    sound_shown (x ∷ lanes) [] stands may channels sound = sound
    sound_shown (x ∷ lanes) (a ∷ machines) (same, here, stands) may channels sound = (by (quiet x) (gives_on x may.0), sound_shown lanes machines stands may.1 channels.1 sound.1)
      where
        by : (o : Option (List Sample)) → (o ≡ None → (top : ℕ) × Gives (spec_of x) (reached x) (samples_on (spec_of x).id part) top) → IsSoundLane (lane_with_taken o (samples_on (spec_of x).id part) a)
        by None gave = let (top, g) = gave refl in sound_lane None (samples_on (spec_of x).id part) a (spec_of x) (reached x) top same g (few_on x channels.0.capacity.0) sound.0
        by (Some waiting) gave = sound.0

    climb_shown : (files : List File) (lanes : List L) (machines : List Lane) → StandFor quiet reached spec_of lanes machines → MayGive quiet reached spec_of channel first lanes → AllByRecursion (LaneClimbs files) machines
        → AllByRecursion (LaneClimbs files) (lanes_showing quiet spec_of channel first lanes machines)
    climb_shown files [] machines stands may climbs = climbs
    climb_shown files (x ∷ lanes) [] stands may climbs = climbs
    climb_shown files (x ∷ lanes) (a ∷ machines) (same, here, stands) may climbs = (by (quiet x) here (gives_on x may.0), climb_shown files lanes machines stands may.1 climbs.1)
      where
        by : (o : Option (List Sample)) → IsReachedBy o (reached x) a → (o ≡ None → (top : ℕ) × Gives (spec_of x) (reached x) (samples_on (spec_of x).id part) top) → LaneClimbs files (lane_with_taken o (samples_on (spec_of x).id part) a)
        by None stands gave = let (top, g) = gave refl in climbs_lane None files (samples_on (spec_of x).id part) a (spec_of x) (reached x) top stands g climbs.0
        by (Some waiting) stands gave = climbs.0

    pub waits_shown : (rest : List Sample) (lanes : List L) (machines : List Lane) → StandFor quiet reached spec_of lanes machines → TellsWaiting quiet spec_of lanes (one_part channel [] rest) → AllByRecursion (λ (x : L). (spec_of x).id ≡ channel → quiet x ≡ None → rest ≡ first ∷ []) lanes
        → HasWaiting (lanes_showing quiet spec_of channel first lanes machines) (one_part channel [] rest)
    waits_shown rest [] [] stands tells alone = tt
    waits_shown rest [] (a ∷ machines) stands tells alone = absurd stands
    waits_shown rest (x ∷ lanes) [] stands tells alone = absurd stands
    waits_shown rest (x ∷ lanes) (a ∷ machines) (same, here, stands) tells alone = (
      shown_lane (quiet x) (samples_on (spec_of x).id part) a (reached x) (spec_of x).id channel rest (ap (λ (s : ChannelSpec). s.id) same) here tells.0 (λ is none. on_channel (spec_of x).id is ∙ sym (alone.0 is none)),
      waits_shown rest lanes machines stands tells.1 alone.1,
    )

    -- with the sample waiting in its lane a machine is represented too
    pub meant_shown : (k : Kept) (image : Image) (failures : ℕ) (m : Machine) (lanes : List L) → KeptStandsFor k image failures m → StandFor quiet reached spec_of lanes m.lanes → MayGive quiet reached spec_of channel first lanes → AllByRecursion (λ (x : L). IsChannel (spec_of x)) lanes
        → KeptStandsFor k image failures (machine_with_lanes (lanes_showing quiet spec_of channel first lanes m.lanes) m)
    meant_shown k image failures m lanes means stands may channels =
        let sound = means.sound in
        let now : List Lane = lanes_showing quiet spec_of channel first lanes m.lanes in
        record {
          mode = means.mode;
          tick = means.tick;
          counted = means.counted;
          files = means.files;
          numbers = numbers_stay took quiet reached spec_of keeps gives stays k m now (counted_all took quiet reached spec_of keeps gives stays part m.files lanes k.config.channels k.taken k.erased m.lanes) means.numbers;
          sound = record {
            channels = specs_stay took quiet reached spec_of keeps gives stays part lanes m.lanes ∙ sound.channels;
            lanes = sound_shown lanes m.lanes stands may channels sound.lanes;
            tick = sound.tick;
            event = sound.event;
            most = sound.most;
            shown = sound.shown;
            generation = sound.generation;
            cursors = sound.cursors;
            work = work_sound took quiet reached spec_of keeps gives stays k.config m now (climb_shown m.files lanes m.lanes stands may) sound.work;
          };
        }
