-- What readers and channels do, mounts and erases, from sound states to sound states.
use Rattle.std.proofs.Common.{◌≡◌, ◌≤◌, ◌<◌, ◌^◌, ℕ, Bool, true, false, not, List, [], ◌∷◌, ◌++◌, map, length, drop, zero, suc, Option, Some, None, refl, sym, ap, ◌∙◌, subst, arith, IfSome, IsSomeAnd, true≢false, ◌==◌, nat_lt, slice_get}
use Rattle.std.proofs.lemmas.Bool.{eqb-true, eqb-false, eq-eqb, ltb-true, leb-true}
use Rattle.std.proofs.lemmas.List.{length-append, append_assoc}
use Rattle.r10_count.specs.Count.{IsCount}
use Rattle.r10_count.specs.Checks.{first_broken}
use Rattle.r10_body.specs.declared.entry.Entry.{Entry}
use Rattle.r10_body.specs.declared.entry.Sample.{Sample}
use Rattle.r10_body.specs.declared.message.Message.{Message}
use Rattle.r10_body.specs.declared.refusal.Refusal.TheVariants.{CountRange, CountBack, Overflow}
use Rattle.r10_body.specs.Gaps.{gap_after, IsSoundGap}
use Rattle.r10_machine.specs.Config.{Config}
use Rattle.r10_machine.specs.Machine.{Machine, Lane, File, Cursor, Sets, SetsCursor, cursor_at, cursor_of, lane_of, lane_in, is_channel, with_lane}
use Rattle.r10_machine.specs.Replay.{Ordered}
use Rattle.r10_machine.specs.Checks.{message_checks, taking_checks, count_checks, room_checks, is_not_before, is_full, offer_checks}
use Rattle.r10_machine.specs.Calls.{Opens, Advances, GivesQueued, fresh_cursor, wanted_since, accepted, losing, overflowed}
use Rattle.r10_machine.specs.SoundParts.{IsSoundLane, IsSoundCursor, LaneClimbs, Climbs, counts_on, count_or_0}
use Rattle.r10_machine.proofs.Climbing.{climbs_push, map-joined}
use Rattle.r10_machine.proofs.Steady.{changed_all, same_specs}
use Rattle.r10_machine.specs.Sound.{IsSound}
use Rattle.r10_machine.proofs.Grown.{work_moved}
use Rattle.r10_count.proofs.Rules.{none_broken, rules_parts}
use Rattle.r10_count.proofs.Lists.{all_more}

-- ---- cursors

sets_sound : (P : Cursor → Type 0) (old new : List (Option Cursor)) (id : ℕ) (cursor : Option Cursor) → Sets old new id cursor
    → IfSome cursor P → ((i : ℕ) → IfSome (cursor_at old i) P) → (i : ℕ) → IfSome (cursor_at new i) P
sets_sound P old new id cursor sets here before i = by (i == id) refl
  where
    by : (b : Bool) → (i == id) ≡ b → IfSome (cursor_at new i) P
    by true same = subst (λ (o : Option Cursor). IfSome o P) (sym (ap (cursor_at new) (eqb-true i id same) ∙ sets.changed)) here
    by false differ = subst (λ (o : Option Cursor). IfSome o P) (sym (sets.others i (λ is. true≢false (sym (eq-eqb i id is) ∙ differ)))) (before i)

-- with other cursors that are sound, and after any number of failures
pub sound_with : (s : Config) (m : Machine) (cursors : List (Option Cursor)) (failures : ℕ) → IsSound s m
    → ((id : ℕ) → IfSome (cursor_at cursors id) (IsSoundCursor m)) → IsSound s (record m { cursors = cursors; failures = failures })
sound_with s m cursors failures sound each = record {
  channels = sound.channels;
  lanes = sound.lanes;
  tick = sound.tick;
  event = sound.event;
  most = sound.most;
  shown = sound.shown;
  generation = sound.generation;
  cursors = each;
  work = work_moved m.mode s m (record m { cursors = cursors; failures = failures }) sound.work
      (λ work. record { recording = work.recording; own = work.own; others = work.others; lanes = work.lanes; times = work.times; events = work.events });
}

sound_sets : (s : Config) (old new : Machine) (id : ℕ) (cursor : Option Cursor) → IsSound s old → SetsCursor old new id cursor → IfSome cursor (IsSoundCursor old) → IsSound s new
sound_sets s old new id cursor sound (sets, is) here =
    subst (IsSound s) (sym is) (sound_with s old new.cursors old.failures sound (sets_sound (IsSoundCursor old) old.cursors new.cursors id cursor sets here sound.cursors))

there : {X : Type 0} (xs : List X) (i : ℕ) → i < length xs → (P : X → Type 0) → ((x : X) → P x) → IsSomeAnd (slice_get xs i) P
there [] i within P each = absurd (omega (arith, within))
there (x ∷ xs) zero within P each = each x
there (x ∷ xs) (suc i) within P each = there xs i (omega (arith, within)) P each

pub opens_sound : (s : Config) (old : Machine) (file : ℕ) (channels : List ℕ) (from to id : ℕ) (new : Machine) → IsSound s old → file < length old.files
    → Opens old file channels from to id new → IsSound s new
opens_sound s old file channels from to id new sound within (free, sets) =
    sound_sets s old new id (Some (fresh_cursor old.generation channels file from to)) sound sets
    (omega arith, λ same. there old.files file within (λ f. 0 ≤ f.shown) (λ f. omega arith))

pub advances_sound : (s : Config) (old : Machine) (id n : ℕ) (new : Machine) → IsSound s old → Advances old id n new → IsSound s new
advances_sound s old id n new sound moves = by (cursor_of id old) moves (sound.cursors id)
  where
    by : (o : Option Cursor) → IsSomeAnd o (λ c. IsSomeAnd (slice_get old.files c.file) (λ f. (queue : List Entry) × Ordered (wanted_since f c) queue × (n ≡ length queue) × SetsCursor old new id (Some (record c { covered = f.shown; queue = queue }))))
        → IfSome o (IsSoundCursor old) → IsSound s new
    by None moves before = absurd moves
    by (Some c) moves before = at (slice_get old.files c.file) refl moves
      where
        at : (f : Option File) → slice_get old.files c.file ≡ f → IsSomeAnd f (λ f. (queue : List Entry) × Ordered (wanted_since f c) queue × (n ≡ length queue) × SetsCursor old new id (Some (record c { covered = f.shown; queue = queue }))) → IsSound s new
        at None is moves = absurd moves
        at (Some f) is (queue, ordered, long, sets) =
            sound_sets s old new id (Some (record c { covered = f.shown; queue = queue })) sound sets (before.0, λ same. subst (λ (o : Option File). IsSomeAnd o (λ g. f.shown ≤ g.shown)) (sym is) (omega arith))

pub gives_sound : (s : Config) (old : Machine) (id : ℕ) (given : Option Entry) (new : Machine) → IsSound s old → GivesQueued old id given new → IsSound s new
gives_sound s old id given new sound moves = by (cursor_of id old) moves (sound.cursors id)
  where
    by : (o : Option Cursor) → IsSomeAnd o (λ c. (given ≡ slice_get c.queue 0) × SetsCursor old new id (Some (record c { queue = drop 1 c.queue })))
        → IfSome o (IsSoundCursor old) → IsSound s new
    by None moves before = absurd moves
    by (Some c) (is, sets) before = sound_sets s old new id (Some (record c { queue = drop 1 c.queue })) sound sets before

pub closes_sound : (s : Config) (old : Machine) (id : ℕ) (new : Machine) → IsSound s old → SetsCursor old new id None → IsSound s new
closes_sound s old id new sound sets = sound_sets s old new id None sound sets tt

-- ---- channels

-- a lane that may take a message
record Takes (lane : Lane) (count : ℕ) (message : Message) : Type 0 where
  message_is : first_broken (message_checks lane.spec message) ≡ None
  range : IsCount count
  order : count_or_0 lane.last ≤ count
  room : length lane.waiting < lane.spec.capacity

takes_of : (lane : Lane) (count : ℕ) (message : Message) → first_broken (taking_checks lane.spec lane.last count message ++ room_checks (Some lane)) ≡ None → Takes lane count message
takes_of lane count message all =
    let a = rules_parts (taking_checks lane.spec lane.last count message) (room_checks (Some lane)) all in
    let b = rules_parts (message_checks lane.spec message) (count_checks lane.last count) a.0 in
    let c = none_broken (nat_lt count 281474976710656) CountRange ((is_not_before lane.last count, CountBack) ∷ []) b.1 in
    let d = none_broken (is_not_before lane.last count) CountBack [] c.1 in
    let e = none_broken (not (is_full lane)) Overflow [] a.1 in
    record {
      message_is = b.0;
      range = ltb-true count 281474976710656 c.0;
      order = after lane.last d.0;
      room = ltb-true (length lane.waiting) lane.spec.capacity (not-not (nat_lt (length lane.waiting) lane.spec.capacity) e.0);
    }
  where
    after : (last : Option ℕ) → is_not_before last count ≡ true → count_or_0 last ≤ count
    after None fine = omega arith
    after (Some n) fine = leb-true n count fine

    not-not : (b : Bool) → not (not b) ≡ true → b ≡ true
    not-not true is = refl
    not-not false is = cc

gap_fits : (missed : ℕ) (b : Bool) → (missed == 0) ≡ b → missed < 2 ^ 64 → IsSoundGap (gap_after missed)
gap_fits missed true is few = rw is tt
gap_fits missed false is few = rw is (omega (arith, eqb-false missed 0 is), few)

accepted_sound : (lane : Lane) (count : ℕ) (message : Message) → Takes lane count message → IsSoundLane lane → IsSoundLane (accepted count message lane)
accepted_sound lane count message takes sound =
    let new : Sample = record { count = count; message = message; gap = gap_after lane.missed } in
    record {
      held = omega (arith, takes.room, length-append lane.waiting (new ∷ []));
      messages = all_more (λ x. first_broken (message_checks lane.spec x.message) ≡ None) lane.waiting new sound.messages takes.message_is;
      counts = all_more (λ x. IsCount x.count) lane.waiting new sound.counts takes.range;
      gaps = all_more (λ x. IsSoundGap x.gap) lane.waiting new sound.gaps (gap_fits lane.missed (lane.missed == 0) refl sound.missed);
      missed = omega arith;
    }

accepted_climbs : (files : List File) (lane : Lane) (count : ℕ) (message : Message) → Takes lane count message → LaneClimbs files lane → LaneClimbs files (accepted count message lane)
accepted_climbs files lane count message takes climbs =
    let new : Sample = record { count = count; message = message; gap = gap_after lane.missed } in
    let before = counts_on lane.spec.id files in
    let is : before ++ map (λ (x : Sample). x.count) (lane.waiting ++ new ∷ []) ≡ before ++ map (λ (x : Sample). x.count) lane.waiting ++ count ∷ [] =
    ap (λ (l : List ℕ). before ++ l) (map-joined (λ (x : Sample). x.count) lane.waiting (new ∷ [])) ∙ sym (append_assoc before (map (λ (x : Sample). x.count) lane.waiting) (count ∷ [])) in
    subst (λ (l : List ℕ). Climbs 0 l count) (sym is) (climbs_push 0 (before ++ map (λ (x : Sample). x.count) lane.waiting) (count_or_0 lane.last) count takes.order climbs)

sound_lanes : (s : Config) (m : Machine) (channel : ℕ) (change : Lane → Lane) → IsSound s m → ((lane : Lane) → (change lane).spec ≡ lane.spec)
    → ((lane : Lane) → lane_in channel m.lanes ≡ Some lane → IsSoundLane lane → IsSoundLane (change lane))
    → ((lane : Lane) → lane_in channel m.lanes ≡ Some lane → LaneClimbs m.files lane → LaneClimbs m.files (change lane)) → IsSound s (with_lane channel change m)
sound_lanes s m channel change sound same each climbs = record {
  channels = same_specs (is_channel channel) change same m.lanes ∙ sound.channels;
  lanes = changed_all IsSoundLane (is_channel channel) change m.lanes sound.lanes each;
  tick = sound.tick;
  event = sound.event;
  most = sound.most;
  shown = sound.shown;
  generation = sound.generation;
  cursors = sound.cursors;
  work = work_moved m.mode s m (with_lane channel change m) sound.work (λ work. record {
    recording = work.recording;
    own = work.own;
    others = work.others;
    lanes = changed_all (LaneClimbs m.files) (is_channel channel) change m.lanes work.lanes climbs;
    times = work.times;
    events = work.events;
  });
}

pub offers_sound : (s : Config) (m : Machine) (channel count : ℕ) (message : Message) → IsSound s m
    → first_broken (offer_checks (lane_of channel m) count message ++ room_checks (lane_of channel m)) ≡ None → IsSound s (with_lane channel (accepted count message) m)
offers_sound s m channel count message sound fine =
    sound_lanes s m channel (accepted count message) sound (λ lane. refl)
    (λ lane there sound. accepted_sound lane count message (takes lane there) sound)
    (λ lane there climbs. accepted_climbs m.files lane count message (takes lane there) climbs)
  where
    takes : (lane : Lane) → lane_in channel m.lanes ≡ Some lane → Takes lane count message
    takes lane there = takes_of lane count message (subst (λ (o : Option Lane). first_broken (offer_checks o count message ++ room_checks o) ≡ None) there fine)

-- losses change neither what waits nor a count
pub loses_sound : (s : Config) (m : Machine) (channel n : ℕ) → IsSound s m → IsSound s (with_lane channel (losing n) m)
loses_sound s m channel n sound =
    sound_lanes s m channel (losing n) sound (λ lane. refl)
    (λ lane there sound. record { held = sound.held; messages = sound.messages; counts = sound.counts; gaps = sound.gaps; missed = omega arith })
    (λ lane there climbs. climbs)

pub overflows_sound : (s : Config) (m : Machine) (channel : ℕ) → IsSound s m → IsSound s (with_lane channel overflowed m)
overflows_sound s m channel sound =
    sound_lanes s m channel overflowed sound (λ lane. refl)
    (λ lane there sound. record { held = sound.held; messages = sound.messages; counts = sound.counts; gaps = sound.gaps; missed = omega arith })
    (λ lane there climbs. climbs)
