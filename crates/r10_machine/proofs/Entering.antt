-- What its own files hold, and where channels stand apart.
use Rattle.std.proofs.Common.{◌≡◌, ◌≤◌, ◌<◌, ℕ, true, false, List, [], ◌∷◌, ◌++◌, map, length, Option, Some, None, refl, sym, ap, ◌∙◌, subst, arith, IsSomeAnd, true≢false, ◌==◌, nat_le, nat_lt, slice_get, count_by, lit<}
use Rattle.std.specs.List.{AllByRecursion, IsDistinct}
use Rattle.std.proofs.Math.Nat.{mod-lt}
use Rattle.std.proofs.lemmas.List.{length-append}
use Rattle.std.proofs.lemmas.Bool.{eq-eqb, leb-true, ltb-true}
use Rattle.r10_count.specs.Count.{IsCount}
use Rattle.r10_count.specs.Civil.{IsCivil}
use Rattle.r10_count.specs.Checks.{first_broken}
use Rattle.r10_body.specs.Channels.{spec_of}
use Rattle.r10_body.specs.Files.{on_channel}
use Rattle.r10_body.specs.Rules.{is_event_of}
use Rattle.r10_body.specs.declared.entry.Entry.{Entry}
use Rattle.r10_body.specs.declared.gap.Gap.TheVariants.{Whole}
use Rattle.r10_body.specs.declared.message.Message.{Message}
use Rattle.r10_body.specs.declared.message.Message.TheVariants.{Time, Event}
use Rattle.r10_body.specs.declared.message.Kind.TheVariants as kinds
use Rattle.r10_body.specs.declared.refusal.Refusal.TheVariants.{CountRange, CountBack, BadEvent}
use Rattle.r10_body.specs.declared.spec.ChannelSpec.{ChannelSpec}
use Rattle.r10_machine.specs.Config.{Config}
use Rattle.r10_machine.specs.Limits.{IsConfig, channel_ids}
use Rattle.r10_machine.specs.Machine.{Lane, File, with_entries, fresh_lane}
use Rattle.r10_machine.specs.Room.{cost_of, area}
use Rattle.r10_machine.specs.Checks.{message_checks, count_checks, is_not_before}
use Rattle.r10_machine.specs.Calls.{closed_whole, shown_whole}
use Rattle.r10_machine.specs.SoundParts.{Climbs, LaneClimbs, counts_on, count_or_0, IsTimeOrMessage}
use Rattle.r10_machine.proofs.Ranges.{parts_of, ids_distinct}
use Rattle.r10_machine.proofs.Climbing.{climbs_push, entry_counts}
use Rattle.r10_machine.proofs.Growing.{ClimbsWith, climbs_without, time_apart, lanes_distinct, other_than, wrong_kind}
use Rattle.r10_machine.specs.EventChecks.{event_checks}
use Rattle.r10_machine.specs.ControlCalls.{event_entry}
use Rattle.r10_machine.specs.Sound.{IsEntry, IsOwnFile, IsEvent}
use Rattle.r10_count.proofs.Rules.{none_broken, rules_parts}
use Rattle.r10_count.proofs.Lists.{all_joined}

-- ---- entries

pub all_each : {X : Type 0} (P Q : X → Type 0) → ((x : X) → P x → Q x) → (xs : List X) → AllByRecursion P xs → AllByRecursion Q xs
all_each P Q each [] all = tt
all_each P Q each (x ∷ xs) (here, all) = (each x here, all_each P Q each xs all)

-- no channel takes events
no_event : (spec : ChannelSpec) (number before : ℕ) (kind : kinds.the_data) → spec.kind ≡ kind → first_broken (message_checks spec (Event number before)) ≡ None → ⊥
no_event spec number before kinds.Uart is fine = wrong_kind (rw is at fine)
no_event spec number before kind is fine = wrong_kind (rw is at fine)

none_takes : (o : Option ChannelSpec) (number before : ℕ) → IsSomeAnd o (λ spec. first_broken (message_checks spec (Event number before)) ≡ None) → ⊥
none_takes None number before there = there
none_takes (Some spec) number before there = no_event spec number before spec.kind refl there

-- times and messages are entries
pub is_entry : (s : Config) (e : Entry) → IsTimeOrMessage s e → IsEntry s e
is_entry s e fine = by e.message fine.2
  where
    by : (m : Message) → elim m as (λ m. Type 0) [
      | Time civil ↦ (e.channel ≡ s.time) × IsCivil civil × (e.gap ≡ Whole)
      | _ ↦ IsSomeAnd (spec_of s.channels e.channel) (λ spec. first_broken (message_checks spec m) ≡ None)
    ] → elim m as (λ m. Type 0) [ Event number before ↦ IsEvent s e number before | _ ↦ IsTimeOrMessage s e ]
    by (Event number before) takes = absurd (none_takes (spec_of s.channels e.channel) number before takes)
    by m takes = fine

pub are_entries : (s : Config) (es : List Entry) → AllByRecursion (IsTimeOrMessage s) es → AllByRecursion (IsEntry s) es
are_entries s es all = all_each (IsTimeOrMessage s) (IsEntry s) (is_entry s) es all

-- ---- recording events

-- an event that may be recorded
pub record Marking (last : Option ℕ) (number count : ℕ) : Type 0 where
  pub range : IsCount count
  pub order : count_or_0 last ≤ count
  pub number_is : number ≤ 4095

pub marking : (last : Option ℕ) (number count : ℕ) → first_broken (event_checks last number count) ≡ None → Marking last number count
marking last number count fine =
    let a = rules_parts (count_checks last count) ((nat_le number 4095, BadEvent) ∷ []) fine in
    let b = none_broken (nat_lt count 281474976710656) CountRange ((is_not_before last count, CountBack) ∷ []) a.0 in
    let c = none_broken (is_not_before last count) CountBack [] b.1 in
    let d = none_broken (nat_le number 4095) BadEvent [] a.1 in
    record { range = ltb-true count 281474976710656 b.0; order = after last c.0; number_is = leb-true number 4095 d.0 }
  where
    after : (last : Option ℕ) → is_not_before last count ≡ true → count_or_0 last ≤ count
    after None fine = omega arith
    after (Some n) fine = leb-true n count fine

pub event_is_entry : (s : Config) (number count : ℕ) (f : File) → IsCount count → number ≤ 4095 → IsEntry s (event_entry s number count f)
event_is_entry s number count f range small = (range, refl, small, mod-lt (count_by (is_event_of number) f.entries) (lit< tt), refl)

-- ---- its own files

first_kept : {X : Type 0} (P : X → Type 0) (xs ys : List X) → IsSomeAnd (slice_get xs 0) P → IsSomeAnd (slice_get (xs ++ ys) 0) P
first_kept P [] ys first = absurd first
first_kept P (x ∷ xs) ys first = first

first_long : {X : Type 0} (P : X → Type 0) (xs : List X) → IsSomeAnd (slice_get xs 0) P → 0 < length xs
first_long P [] first = absurd first
first_long P (x ∷ xs) first = omega arith

-- an open file of this recorder with more entries
pub own_grows : (s : Config) (f : File) (es : List Entry) → IsOwnFile s f → f.closed ≡ false → AllByRecursion (IsEntry s) es → cost_of (with_entries es f) ≤ area s f → IsOwnFile s (with_entries es f)
own_grows s f es own unclosed each room = record {
  first = first_kept (λ e. e.channel ≡ s.time) f.entries es own.first;
  begun = own.begun;
  entries = all_joined (IsEntry s) f.entries es own.entries each;
  room = room;
  whole = λ closed. absurd (true≢false (sym closed ∙ unclosed));
}

pub own_closes : (s : Config) (f : File) (es : List Entry) (size : ℕ) → IsOwnFile s f → AllByRecursion (IsEntry s) es → cost_of (with_entries es f) ≤ area s f → IsOwnFile s (closed_whole size (with_entries es f))
own_closes s f es size own each room = record {
  first = first_kept (λ e. e.channel ≡ s.time) f.entries es own.first;
  begun = omega (arith, length-append f.entries es, first_long (λ e. e.channel ≡ s.time) f.entries own.first);
  entries = all_joined (IsEntry s) f.entries es own.entries each;
  room = room;
  whole = λ closed. refl;
}

pub own_shows : (s : Config) (f : File) (size : ℕ) → IsOwnFile s f → IsOwnFile s (shown_whole size f)
own_shows s f size own = record {
  first = own.first;
  begun = first_long (λ e. e.channel ≡ s.time) f.entries own.first;
  entries = own.entries;
  room = own.room;
  whole = λ closed. refl;
}

-- ---- channels apart

-- the channels of times and of events are neither the same nor any lane's, and no two lanes have the same
pub record Apart (s : Config) (lanes : List Lane) : Type 0 where
  pub time : AllByRecursion (λ lane. (s.time == lane.spec.id) ≡ false) lanes
  pub event : AllByRecursion (λ lane. (s.event == lane.spec.id) ≡ false) lanes
  pub times : (s.time == s.event) ≡ false
  pub events : (s.event == s.time) ≡ false
  pub lanes_differ : IsDistinct (λ a b. a == b) (map (λ lane. lane.spec.id) lanes)

each_apart : (id : ℕ) (lanes : List Lane) → AllByRecursion (λ (other : ℕ). (id == other) ≡ false) (channel_ids (map (λ lane. lane.spec) lanes)) → AllByRecursion (λ lane. (id == lane.spec.id) ≡ false) lanes
each_apart id [] all = tt
each_apart id (lane ∷ lanes) (here, all) = (here, each_apart id lanes all)

pub apart_of : (s : Config) (lanes : List Lane) → IsConfig s → map (λ lane. lane.spec) lanes ≡ s.channels → Apart s lanes
unfolding IsDistinct
apart_of s lanes config is =
    let distinct = ids_distinct [] (s.time ∷ s.event ∷ channel_ids s.channels) (parts_of s config).ids in
    record {
      time = time_apart s lanes config is;
      event = each_apart s.event lanes (subst (λ (specs : List ChannelSpec). AllByRecursion (λ (id : ℕ). (s.event == id) ≡ false) (channel_ids specs)) (sym is) distinct.1.0);
      times = distinct.0.0;
      events = other_than s.time s.event distinct.0.0;
      lanes_differ = lanes_distinct s lanes config is;
    }

-- ---- one entry more

pub nowhere_else : (channel : ℕ) (e : Entry) → (e.channel == channel) ≡ false → on_channel channel (e ∷ []) ≡ []
nowhere_else channel e differ = rw differ refl

pub one_climbs : (files : List File) (e : Entry) (lanes : List Lane) → AllByRecursion (λ lane. (e.channel == lane.spec.id) ≡ false) lanes → AllByRecursion (LaneClimbs files) lanes
    → AllByRecursion (ClimbsWith files (e ∷ [])) lanes
one_climbs files e [] apart all = tt
one_climbs files e (lane ∷ lanes) (differ, apart) (here, all) =
    (climbs_without files (e ∷ []) lane (nowhere_else lane.spec.id e differ) here, one_climbs files e lanes apart all)

pub none_climb : (files : List File) (lanes : List Lane) → AllByRecursion (LaneClimbs files) lanes → AllByRecursion (ClimbsWith files []) lanes
none_climb files [] all = tt
none_climb files (lane ∷ lanes) (here, all) = (climbs_without files [] lane refl here, none_climb files lanes all)

pub events_climb : (s : Config) (e : Entry) (files : List File) (high : ℕ) → e.channel ≡ s.event → high ≤ e.count → Climbs 0 (counts_on s.event files) high
    → Climbs 0 (counts_on s.event files ++ entry_counts (on_channel s.event (e ∷ []))) e.count
events_climb s e files high its order climbs =
    let one : on_channel s.event (e ∷ []) ≡ e ∷ [] = rw (eq-eqb e.channel s.event its) refl in
    subst (λ (l : List Entry). Climbs 0 (counts_on s.event files ++ entry_counts l) e.count) (sym one) (climbs_push 0 (counts_on s.event files) high e.count order climbs)

-- lanes of which nothing has come are of these channels
pub specs_of_fresh : (specs : List ChannelSpec) → map (λ (lane : Lane). lane.spec) (map fresh_lane specs) ≡ specs
specs_of_fresh [] = refl
specs_of_fresh (x ∷ specs) = ap (λ (xs : List ChannelSpec). x ∷ xs) (specs_of_fresh specs)
