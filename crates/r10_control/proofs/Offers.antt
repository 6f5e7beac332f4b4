-- Offers to the lanes of one thread, and losses, by their places and as steps of the machine.
use Rattle.std.proofs.Common.{◌≡◌, ◌≤◌, ◌<◌, ◌+◌, ℕ, zero, suc, Bool, true, false, cond, List, [], ◌∷◌, ◌++◌, length, map, find, get_or, set, is_none, if◌then◌else◌, Option, None, Some, Result, Ok, Err, refl, sym, ap, ◌∙◌, subst, arith}
use Rattle.std.specs.Prelude.{not, option_map}
use Rattle.std.specs.List.{position, position_or_len}
use Rattle.std.proofs.lemmas.List.{set-get_or}
use Rattle.r10_body.specs.declared.entry.Entry.{Entry}
use Rattle.r10_body.specs.declared.message.Message.{Message}
use Rattle.r10_body.specs.declared.refusal.Refusal.{Refusal}
use Rattle.r10_body.specs.declared.refusal.Refusal.TheVariants.{CountBack}
use Rattle.r10_body.specs.declared.spec.ChannelSpec.{ChannelSpec}
use Rattle.r10_count.specs.Checks.{first_broken}
use Rattle.r10_body.specs.Files.{on_channel}
use Rattle.r10_body.specs.Sequence.{last_count}
use Rattle.r10_body.proofs.Places.{no_place, place_is}
use Rattle.r10_lane.specs.Lanes.{Offers, reached}
use Rattle.r10_lane.proofs.Waiting.{refused_before_room}
use Rattle.r10_machine.specs.Calls.{accepted, losing, overflowed}
use Rattle.r10_machine.specs.Checks.{channel_checks, in_48_bits, is_not_before, message_checks, offer_checks, offer_refusal, taking_checks}
use Rattle.r10_machine.specs.Limits.{IsConfig}
use Rattle.r10_dirchain.specs.declared.chain.ChainBlock.{ChainBlock}
use Rattle.r10_volume.specs.Holding.{OpenState}
use Rattle.r10_machine.specs.Config.{Config}
use Rattle.r10_machine.specs.Machine.{Lane, Machine, Tick, change_first, is_channel, lane_of, with_lane}
use Rattle.r10_machine.proofs.Places.{changed_at, found_at, found_nowhere}
use Rattle.r10_refinement.specs.KeptState.{Kept, Work, unmounted, idle, recording, failed}
use Rattle.r10_refinement.specs.Means.{KeptStepsTo, KeptStandsFor}
use Rattle.r10_medium.specs.Disk.{Image}
use Rattle.r10_openfile.specs.Stopping.{AllEnd}
use Rattle.r10_cursor.specs.declared.books.Books.{Books}
use Rattle.r10_control.specs.Owns.{IsRecorded, Owns, OwnsWork}
use Rattle.r10_control.specs.Lanes.{AnswersWith, AreLanes, HaveRisen, LeadsWith, LosesOn, OffersTo, unerased}
use Rattle.r10_machine.specs.EventChecks.{refusal}
use Rattle.r10_machine.specs.Step.{after_refusal}
use Rattle.r10_machine.specs.declared.event.Event.TheVariants.{Lose, Offer}
use Rattle.r10_machine.specs.declared.reply.Reply.TheVariants as replies

-- ---- places

-- a lane that stands first of those that pass a test
pub record IsAt (test : Lane → Bool) (lanes : List Lane) (i : ℕ) (lane : Lane) : Type 0 where
  pub found : find test lanes ≡ Some lane
  pub changed : (change : Lane → Lane) → change_first test change lanes ≡ set lanes i (change lane)

pub is_at : (test : Lane → Bool) (lanes : List Lane) (i : ℕ) (lane : Lane) → position test lanes ≡ Some i → lane ≡ get_or lanes i lane → IsAt test lanes i lane
is_at test lanes i lane is here =
    let at = place_is test lanes i is in
    let within : i < length lanes = omega (arith, at.0, at.1) in record {
      found = found_at test lanes i lane at.1 within ∙ ap (λ (l : Lane). Some l) (sym here);
      changed = λ change. changed_at test change lanes i lane at.1 within ∙ ap (λ (l : Lane). set lanes i (change l)) (sym here);
    }

below_or_len : (test : Lane → Bool) (lanes : List Lane) → position_or_len test lanes ≤ length lanes
below_or_len test [] = omega arith
below_or_len test (l ∷ lanes) = by (test l) (below_or_len test lanes)
  where
    by : (b : Bool) → position_or_len test lanes ≤ length lanes → cond (not b) (1 + position_or_len test lanes) 0 ≤ length (l ∷ lanes)
    by true le = omega arith
    by false le = omega (arith, le)

pub is_nowhere : (test : Lane → Bool) (lanes : List Lane) → position test lanes ≡ None → find test lanes ≡ None
is_nowhere test lanes is =
    found_nowhere test lanes (omega (arith, below_or_len test lanes, no_place test lanes is))

-- ---- all lanes

-- without a last count, an offer is refused for its message or its range, and so it is with one
without_last : (ms : List (Bool × Refusal)) (range : Bool × Refusal) (late : Bool) (r : Refusal) → first_broken (ms ++ range ∷ (true, CountBack) ∷ []) ≡ Some r → first_broken (ms ++ range ∷ (late, CountBack) ∷ []) ≡ Some r
without_last [] (true, out) late r e = absurd (cc)
without_last [] (false, out) late r e = e
without_last ((true, f) ∷ ms) range late r e = without_last ms range late r e
without_last ((false, f) ∷ ms) range late r e = e

pub refused_early : (lane : Lane) (count : ℕ) (message : Message) (r : Refusal) → first_broken (taking_checks lane.spec None count message) ≡ Some r → Offers lane count message (Err r) lane
refused_early lane count message r e = refused_before_room lane count message r (without_last (message_checks lane.spec message) (in_48_bits count) (is_not_before lane.last count) r e)

left : (channel : ℕ) (lanes : List Lane) (i : ℕ) (lane : Lane) (fine : Bool) → IsAt (is_channel channel) lanes i lane → lane ≡ get_or lanes i lane
    → set lanes i (if fine then overflowed lane else lane) ≡ (if fine then change_first (is_channel channel) overflowed lanes else lanes)
left channel lanes i lane true at here = sym (at.changed overflowed)
left channel lanes i lane false at here = ap (set lanes i) here ∙ set-get_or lanes i lane

pub offers_at : (channel : ℕ) (lanes : List Lane) (i : ℕ) (old new : Lane) (count : ℕ) (message : Message) (result : Result (Unit {0}) Refusal) → position (is_channel channel) lanes ≡ Some i → old ≡ get_or lanes i old
    → Offers old count message result new → OffersTo channel lanes count message result (set lanes i new)
offers_at channel lanes i old new count message (Ok u) is here (fine, made) =
    let at = is_at (is_channel channel) lanes i old is here in
    rw at.found (fine, ap (set lanes i) made ∙ sym (at.changed (accepted count message)))
offers_at channel lanes i old new count message (Err r) is here (first, made) =
    let at = is_at (is_channel channel) lanes i old is here in
    rw at.found (first, ap (set lanes i) made ∙ left channel lanes i old (is_none (first_broken (offer_checks (Some old) count message))) at here)

pub loses_at : (channel : ℕ) (lanes : List Lane) (i : ℕ) (old new : Lane) (lost : ℕ) → position (is_channel channel) lanes ≡ Some i → old ≡ get_or lanes i old → new ≡ losing lost old → LosesOn channel lanes lost (Ok tt) (set lanes i new)
loses_at channel lanes i old new lost is here made =
    let at = is_at (is_channel channel) lanes i old is here in
    rw at.found (refl, ap (set lanes i) made ∙ sym (at.changed (losing lost)))

-- a lane that loses has reached what it had
pub loses_rise : (old new : Lane) (lost : ℕ) → new ≡ losing lost old → reached old ≤ reached new
loses_rise old new lost made = let same : reached new ≡ reached old = ap reached made in omega (arith, same)

pub none_risen : (lanes : List Lane) → HaveRisen lanes lanes
none_risen [] = tt
none_risen (l ∷ lanes) = ((refl, omega arith), none_risen lanes)

pub one_risen : (lanes : List Lane) (i : ℕ) (old new : Lane) → old ≡ get_or lanes i old → new.spec ≡ old.spec → reached old ≤ reached new → HaveRisen lanes (set lanes i new)
one_risen [] i old new here same more = tt
one_risen (l ∷ lanes) zero old new here same more = ((same ∙ ap (λ (x : Lane). x.spec) here, subst (λ (x : Lane). reached x ≤ reached new) here more), none_risen lanes)
one_risen (l ∷ lanes) (suc i) old new here same more = ((refl, omega arith), one_risen lanes i old new here same more)

-- ---- what is known of the lanes

pub risen_specs : (old new : List Lane) → HaveRisen old new → map (λ (l : Lane). l.spec) new ≡ map (λ (l : Lane). l.spec) old
risen_specs [] [] risen = refl
risen_specs [] (b ∷ new) risen = absurd risen
risen_specs (a ∷ old) [] risen = absurd risen
risen_specs (a ∷ old) (b ∷ new) risen = rw (risen.0.0, risen_specs old new risen.1) refl

pub risen_end : (entries : List Entry) (old new : List Lane) → HaveRisen old new → AllEnd (λ (l : Lane). l.spec) reached old entries → AllEnd (λ (l : Lane). l.spec) reached new entries
risen_end entries [] [] risen ends = tt
risen_end entries [] (b ∷ new) risen ends = absurd risen
risen_end entries (a ∷ old) [] risen ends = absurd risen
risen_end entries (a ∷ old) (b ∷ new) risen ends =
    (subst (λ (s : ChannelSpec). last_count 0 (on_channel s.id entries) ≤ reached b) (sym risen.0.0) (omega (arith, ends.0, risen.0.1)), risen_end entries old new risen.1 ends.1)

-- what a recorder is known to be stays where lanes rise
recorded_risen : (s : Config) (tick : Option Tick) (last_event : Option ℕ) (image : Image) (chain : List ChainBlock) (o : OpenState) (old new : List Lane) → HaveRisen old new
    → IsRecorded (λ (l : Lane). l.spec) reached s tick last_event image chain o old → IsRecorded (λ (l : Lane). l.spec) reached s tick last_event image chain o new
recorded_risen s tick last_event image chain o old new risen is = record {
  text = is.text;
  entries = is.entries;
  shown = is.shown;
  carries = is.carries;
  lanes_end = risen_end is.entries old new risen is.lanes_end;
  times_end = is.times_end;
  events_end = is.events_end;
  ticked = is.ticked;
  time_is = is.time_is;
  event_is = is.event_is;
  builders = is.builders;
  room = is.room;
  counts = is.counts;
  cost = is.cost;
  on = is.on;
  listed = is.listed;
}

work_risen : (k : Kept) (w : Work) (image : Image) (old new : List Lane) → HaveRisen old new → OwnsWork (λ (l : Lane). l.spec) reached k w image old → OwnsWork (λ (l : Lane). l.spec) reached k w image new
work_risen k unmounted image old new risen owns = tt
work_risen k (idle chain) image old new risen owns = owns
work_risen k (recording chain o) image old new risen (usable, is) = (usable, recorded_risen k.config k.tick k.last_event image chain o old new risen is)
work_risen k failed image old new risen owns = tt

pub owns_risen : (k : Kept) (image : Image) (books : Books) (old new : List Lane) → HaveRisen old new → Owns (λ (l : Lane). l.spec) reached k image old books → Owns (λ (l : Lane). l.spec) reached k image new books
owns_risen k image books old new risen owns = record {
  limits = owns.limits;
  blocks = owns.blocks;
  specs = risen_specs old new risen ∙ owns.specs;
  generation = owns.generation;
  taken = owns.taken;
  erased = owns.erased;
  work = work_risen k k.work image old new risen owns.work;
  judged = owns.judged;
}

-- ---- steps

module _ (channel : ℕ) where
  found_in : (lanes : List Lane) → find (is_channel channel) (map unerased lanes) ≡ option_map unerased (find (is_channel channel) lanes)
  found_in [] = refl
  found_in (l ∷ lanes) = by (is_channel channel l) (found_in lanes)
    where
      by : (b : Bool) → find (is_channel channel) (map unerased lanes) ≡ option_map unerased (find (is_channel channel) lanes)
          → cond b (Some (unerased l)) (find (is_channel channel) (map unerased lanes)) ≡ option_map unerased (cond b (Some l) (find (is_channel channel) lanes))
      by true rest = refl
      by false rest = rest

  pub changed_in : (change : Lane → Lane) → ((l : Lane) → change (unerased l) ≡ unerased (change l)) → (lanes : List Lane) → change_first (is_channel channel) change (map unerased lanes) ≡ map unerased (change_first (is_channel channel) change lanes)
  changed_in change same [] = refl
  changed_in change same (l ∷ lanes) = by (is_channel channel l) (changed_in change same lanes)
    where
      by : (b : Bool) → change_first (is_channel channel) change (map unerased lanes) ≡ map unerased (change_first (is_channel channel) change lanes)
          → cond b (change (unerased l) ∷ map unerased lanes) (unerased l ∷ change_first (is_channel channel) change (map unerased lanes)) ≡ map unerased (cond b (change l ∷ lanes) (l ∷ change_first (is_channel channel) change lanes))
      by true rest = ap (λ (x : Lane). x ∷ map unerased lanes) (same l)
      by false rest = ap (λ (xs : List Lane). unerased l ∷ xs) rest

same_offer : (count : ℕ) (message : Message) (o : Option Lane) → offer_refusal (option_map unerased o) count message ≡ offer_refusal o count message
same_offer count message None = refl
same_offer count message (Some l) = refl

same_checks : (count : ℕ) (message : Message) (o : Option Lane) → first_broken (offer_checks (option_map unerased o) count message) ≡ first_broken (offer_checks o count message)
same_checks count message None = refl
same_checks count message (Some l) = refl

-- an offer that is accepted is a step, and so is one that is refused
abbrev pub OffersAreSteps : Type 0
OffersAreSteps = (k : Kept) (image : Image) (n : ℕ) (m : Machine) (channel count : ℕ) (message : Message) → IsConfig k.config → KeptStandsFor k image n m → refusal k.config m (Offer channel count message) ≡ None
    → KeptStepsTo k m (Offer channel count message) replies.Done k image n (with_lane channel (accepted count message) m)

abbrev pub RefusedOffersAreSteps : Type 0
RefusedOffersAreSteps = (k : Kept) (image : Image) (n : ℕ) (m : Machine) (channel count : ℕ) (message : Message) (r : Refusal) → IsConfig k.config → KeptStandsFor k image n m → refusal k.config m (Offer channel count message) ≡ Some r
    → KeptStepsTo k m (Offer channel count message) (replies.Refused r) k image n (after_refusal (Offer channel count message) m)

module _ (k : Kept) (image : Image) (n : ℕ) (m : Machine) (channel count : ℕ) (message : Message) (old new : List Lane) (limits : IsConfig k.config) (means : KeptStandsFor k image n m) (are : AreLanes old m) where
  its_lane : find (is_channel channel) old ≡ option_map unerased (lane_of channel m)
  its_lane = ap (λ (ls : List Lane). find (is_channel channel) ls) are ∙ found_in channel m.lanes

  its_refusal : offer_refusal (find (is_channel channel) old) count message ≡ refusal k.config m (Offer channel count message)
  its_refusal = ap (λ (o : Option Lane). offer_refusal o count message) its_lane ∙ same_offer count message (lane_of channel m)

  its_checks : first_broken (offer_checks (find (is_channel channel) old) count message) ≡ first_broken (offer_checks (lane_of channel m) count message)
  its_checks = ap (λ (o : Option Lane). first_broken (offer_checks o count message)) its_lane ∙ same_checks count message (lane_of channel m)

  changed : (change : Lane → Lane) → ((l : Lane) → change (unerased l) ≡ unerased (change l)) → change_first (is_channel channel) change old ≡ map unerased (change_first (is_channel channel) change m.lanes)
  changed change same = ap (change_first (is_channel channel) change) are ∙ changed_in channel change same m.lanes

  accepted_so : OffersAreSteps → offer_refusal (find (is_channel channel) old) count message ≡ None → new ≡ change_first (is_channel channel) (accepted count message) old → LeadsWith k m (Offer channel count message) replies.Done image n new
  accepted_so law fine made = record {
    machine = with_lane channel (accepted count message) m;
    led = law k image n m channel count message limits means (sym its_refusal ∙ fine);
    lanes_are = made ∙ changed (accepted count message) (λ l. refl);
    files = refl;
    cursors = refl;
  }

  refused_so : RefusedOffersAreSteps → (r : Refusal) → offer_refusal (find (is_channel channel) old) count message ≡ Some r
      → new ≡ (if is_none (first_broken (offer_checks (find (is_channel channel) old) count message)) then change_first (is_channel channel) overflowed old else old)
      → LeadsWith k m (Offer channel count message) (replies.Refused r) image n new
  refused_so law r first made = by (is_none (first_broken (offer_checks (lane_of channel m) count message))) (law k image n m channel count message r limits means (sym its_refusal ∙ first))
      (made ∙ ap (λ (o : Option Refusal). if is_none o then change_first (is_channel channel) overflowed old else old) its_checks)
    where
      by : (b : Bool) → KeptStepsTo k m (Offer channel count message) (replies.Refused r) k image n (cond b (with_lane channel overflowed m) m) → new ≡ cond b (change_first (is_channel channel) overflowed old) old
          → LeadsWith k m (Offer channel count message) (replies.Refused r) image n new
      by true led is = record { machine = with_lane channel overflowed m; led = led; lanes_are = is ∙ changed overflowed (λ l. refl); files = refl; cursors = refl }
      by false led is = record { machine = m; led = led; lanes_are = is ∙ are; files = refl; cursors = refl }

pub offer_leads : OffersAreSteps → RefusedOffersAreSteps → (k : Kept) (image : Image) (n channel count : ℕ) (message : Message) (old new : List Lane) (result : Result (Unit {0}) Refusal) → IsConfig k.config
    → OffersTo channel old count message result new → AnswersWith old k image n (Offer channel count message) (λ (u : Unit {0}). replies.Done) result new
offer_leads law refusing k image n channel count message old new (Ok u) limits offers = λ m means are. accepted_so k image n m channel count message old new limits means are law offers.0 offers.1
offer_leads law refusing k image n channel count message old new (Err r) limits offers = λ m means are. refused_so k image n m channel count message old new limits means are refusing r offers.0 offers.1

-- ---- losses that are reported

same_channel : (o : Option Lane) → first_broken (channel_checks (option_map unerased o)) ≡ first_broken (channel_checks o)
same_channel None = refl
same_channel (Some l) = refl

-- a loss that is counted is a step, and so is one that is refused
abbrev pub LossesAreSteps : Type 0
LossesAreSteps = (k : Kept) (image : Image) (n : ℕ) (m : Machine) (channel lost : ℕ) → IsConfig k.config → KeptStandsFor k image n m → refusal k.config m (Lose channel lost) ≡ None
    → KeptStepsTo k m (Lose channel lost) replies.Done k image n (with_lane channel (losing lost) m)

abbrev pub RefusedLossesAreSteps : Type 0
RefusedLossesAreSteps = (k : Kept) (image : Image) (n : ℕ) (m : Machine) (channel lost : ℕ) (r : Refusal) → IsConfig k.config → KeptStandsFor k image n m → refusal k.config m (Lose channel lost) ≡ Some r
    → KeptStepsTo k m (Lose channel lost) (replies.Refused r) k image n m

module _ (k : Kept) (image : Image) (n : ℕ) (m : Machine) (channel lost : ℕ) (old new : List Lane) (limits : IsConfig k.config) (means : KeptStandsFor k image n m) (are : AreLanes old m) where
  lost_refusal : first_broken (channel_checks (find (is_channel channel) old)) ≡ refusal k.config m (Lose channel lost)
  lost_refusal = ap (λ (ls : List Lane). first_broken (channel_checks (find (is_channel channel) ls))) are ∙ ap (λ (o : Option Lane). first_broken (channel_checks o)) (found_in channel m.lanes) ∙ same_channel (lane_of channel m)

  counted_so : LossesAreSteps → first_broken (channel_checks (find (is_channel channel) old)) ≡ None → new ≡ change_first (is_channel channel) (losing lost) old → LeadsWith k m (Lose channel lost) replies.Done image n new
  counted_so law fine made = record {
    machine = with_lane channel (losing lost) m;
    led = law k image n m channel lost limits means (sym lost_refusal ∙ fine);
    lanes_are = made ∙ ap (change_first (is_channel channel) (losing lost)) are ∙ changed_in channel (losing lost) (λ l. refl) m.lanes;
    files = refl;
    cursors = refl;
  }

  uncounted_so : RefusedLossesAreSteps → (r : Refusal) → first_broken (channel_checks (find (is_channel channel) old)) ≡ Some r → new ≡ old → LeadsWith k m (Lose channel lost) (replies.Refused r) image n new
  uncounted_so law r first made = record {
    machine = m;
    led = law k image n m channel lost r limits means (sym lost_refusal ∙ first);
    lanes_are = made ∙ are;
    files = refl;
    cursors = refl;
  }

pub lose_leads : LossesAreSteps → RefusedLossesAreSteps → (k : Kept) (image : Image) (n channel lost : ℕ) (old new : List Lane) (result : Result (Unit {0}) Refusal) → IsConfig k.config
    → LosesOn channel old lost result new → AnswersWith old k image n (Lose channel lost) (λ (u : Unit {0}). replies.Done) result new
lose_leads law refusing k image n channel lost old new (Ok u) limits loses = λ m means are. counted_so k image n m channel lost old new limits means are law loses.0 loses.1
lose_leads law refusing k image n channel lost old new (Err r) limits loses = λ m means are. uncounted_so k image n m channel lost old new limits means are refusing r loses.0 loses.1
