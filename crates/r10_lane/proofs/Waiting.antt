-- What waits in a lane: refused offers, one more at the end, and without the first.
use Rattle.std.proofs.Common.{◌≡◌, ℕ, ◌≤◌, ◌-◌, true, List, [], ◌∷◌, ◌++◌, Option, Some, None, Err, is_none, if◌then◌else◌, drop, refl, sym, ap, subst, arith}
use Rattle.std.proofs.lemmas.Bool.{leb-true, ltb-true}
use Rattle.r10_count.specs.Checks.{first_broken}
use Rattle.r10_count.specs.Count.{IsCount}
use Rattle.r10_body.specs.Gaps.{IsSoundGap}
use Rattle.r10_body.specs.Messages.{channel_refusal}
use Rattle.r10_body.specs.declared.entry.Sample.{Sample}
use Rattle.r10_body.specs.declared.message.Message.{Message}
use Rattle.r10_body.specs.declared.refusal.Refusal.{Refusal}
use Rattle.r10_body.specs.declared.refusal.Refusal.TheVariants.{CountRange, CountBack}
use Rattle.r10_body.specs.declared.spec.ChannelSpec.{ChannelSpec}
use Rattle.std.specs.Prelude.{MatchOption, slice_get}
use Rattle.r10_machine.specs.Machine.{Lane}
use Rattle.r10_machine.specs.Checks.{offer_checks, room_checks, taking_checks, message_checks, count_checks, in_48_bits, is_not_before}
use Rattle.r10_machine.specs.Calls.{overflowed}
use Rattle.r10_machine.specs.SoundParts.{Climbs, count_or_0}
use Rattle.r10_count.proofs.Rules.{rules_stop, none_broken, rules_parts}
use Rattle.r10_machine.proofs.Climbing.{climbs_push, map-joined}
use Rattle.r10_lane.specs.Lanes.{Offers, IsMessageTaken, TookWaiting, Waits, counts_of, first_count_or}
use Rattle.r10_lane.specs.Laws.{lane_took_stays}
use Rattle.r10_count.proofs.Lists.{all_joined}

-- ---- offers

pub refused_before_room : (lane : Lane) (count : ℕ) (message : Message) (r : Refusal) → first_broken (offer_checks (Some lane) count message) ≡ Some r → Offers lane count message (Err r) lane
refused_before_room lane count message r e = (
  rules_stop (offer_checks (Some lane) count message) (room_checks (Some lane)) r e,
  ap (λ (first : Option Refusal). if is_none first then overflowed lane else lane) (sym e),
)

pub not_before : (last : Option ℕ) (count : ℕ) → is_not_before last count ≡ true → count_or_0 last ≤ count
not_before None count fine = omega arith
not_before (Some n) count fine = leb-true n count fine

small : (count : ℕ) → (in_48_bits count).0 ≡ true → IsCount count
small count fine = ltb-true count 281474976710656 fine

-- a message that passes its checks is one that the channel takes, and its count, of 48 bits, isn't below the last one
pub passed : (spec : ChannelSpec) (last : Option ℕ) (count : ℕ) (message : Message) → first_broken (taking_checks spec last count message) ≡ None → (channel_refusal spec message ≡ None) × (count_or_0 last ≤ count) × IsCount count
passed spec last count message fine =
    let parts = rules_parts (message_checks spec message) (count_checks last count) fine in
    let range = none_broken (in_48_bits count).0 CountRange ((is_not_before last count, CountBack) ∷ []) parts.1 in
    let order = none_broken (is_not_before last count) CountBack [] range.1 in
    (parts.0, not_before last count order.0, small count range.0)

-- and may go after what waits
pub waits_more : (spec : ChannelSpec) (last : Option ℕ) (waiting : List Sample) (x : Sample) → Waits spec (count_or_0 last) waiting → first_broken (taking_checks spec last x.count x.message) ≡ None → IsSoundGap x.gap → Waits spec x.count (waiting ++ x ∷ [])
waits_more spec last waiting x waits fine sound =
    let fine = passed spec last x.count x.message fine in
    record {
      taken = all_joined (IsMessageTaken spec) waiting (x ∷ []) waits.taken (fine.0, tt);
      gaps = all_joined (λ (y : Sample). IsSoundGap y.gap) waiting (x ∷ []) waits.gaps (sound, tt);
      counts = all_joined (λ (y : Sample). IsCount y.count) waiting (x ∷ []) waits.counts (fine.2, tt);
      climbs = subst (λ (ns : List ℕ). Climbs 0 ns x.count) (sym (map-joined (λ (y : Sample). y.count) waiting (x ∷ []))) (climbs_push 0 (counts_of waiting) (count_or_0 last) x.count fine.1 waits.climbs);
    }

-- ---- counts of 48 bits

-- what waits first isn't above the last that was accepted
pub reached_in_range : (last : ℕ) (waiting : List Sample) → Climbs 0 (counts_of waiting) last → IsCount last → IsCount (first_count_or waiting last)
reached_in_range last [] climbs range = range
reached_in_range last (x ∷ xs) climbs range = omega (arith, least x.count (counts_of xs) last climbs.1, range)
  where
    least : (low : ℕ) (ns : List ℕ) (high : ℕ) → Climbs low ns high → low ≤ high
    least low [] high climbs = climbs
    least low (n ∷ ns) high (first, climbs) = omega (arith, first, least n ns high climbs)

-- ---- without the first

pub raised : (low lower : ℕ) (ns : List ℕ) (high : ℕ) → lower ≤ low → Climbs low ns high → Climbs lower ns high
raised low lower [] high less climbs = omega (arith, less, climbs)
raised low lower (n ∷ ns) high less (first, climbs) = (omega (arith, less, first), climbs)

pub waits_less : (spec : ChannelSpec) (last : ℕ) (waiting : List Sample) → Waits spec last waiting → Waits spec last (drop 1 waiting)
waits_less spec last [] waits = waits
waits_less spec last (x ∷ xs) waits = record { taken = waits.taken.1; gaps = waits.gaps.1; counts = waits.counts.1; climbs = raised x.count 0 (counts_of xs) last (omega arith) waits.climbs.1 }

-- the first is one that the lane may give
pub took_first : (lane : Lane) (waiting : List Sample) → Waits lane.spec (count_or_0 lane.last) waiting
    → MatchOption (slice_get waiting 0) (TookWaiting (record lane { waiting = waiting }) [] (record lane { waiting = drop 1 waiting })) (λ first. TookWaiting (record lane { waiting = waiting }) (first ∷ []) (record lane { waiting = drop 1 waiting }))
took_first lane [] waits = lane_took_stays (record lane { waiting = [] })
took_first lane (x ∷ xs) waits =
    let next : x.count ≤ first_count_or xs (count_or_0 lane.last) = reaches xs waits.climbs.1 in
    record { front = refl; others = refl; gives = record { passes = (waits.taken.0, tt); gaps = (waits.gaps.0, tt); counts = (waits.counts.0, tt); climbs = (omega arith, next) }; rises = next }
  where
    reaches : (ys : List Sample) → Climbs x.count (counts_of ys) (count_or_0 lane.last) → x.count ≤ first_count_or ys (count_or_0 lane.last)
    reaches [] climbs = climbs
    reaches (y ∷ ys) climbs = climbs.0
