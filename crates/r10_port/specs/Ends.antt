-- The two ends of a lane between threads.
use Rattle.std.specs.Prelude.{◌≡◌, ℕ, ◌+◌, ◌≤◌, List, [], ◌∷◌, ◌++◌, drop, length, Option, Some, None, Result, Err, MatchOption}
use Rattle.std.specs.Prelude.{MatchResult}
use denote.RawPtr.{Ptr}
use Rattle.std.specs.declared.alloc.Global.{Global}
use Rattle.rtrb.specs.Shared.{Names}
use Rattle.rtrb.specs.declared.end.End.{End}
use Rattle.r10_count.specs.Checks.{first_broken}
use Rattle.r10_body.specs.declared.entry.Sample.{Sample}
use Rattle.r10_body.specs.declared.message.Message.{Message}
use Rattle.r10_body.specs.declared.refusal.Refusal.{Refusal}
use Rattle.r10_body.specs.declared.refusal.Refusal.TheVariants.{Overflow}
use Rattle.r10_body.specs.declared.spec.ChannelSpec.{ChannelSpec}
use Rattle.r10_machine.specs.Machine.{Lane}
use Rattle.r10_machine.specs.Checks.{offer_checks}
use Rattle.r10_machine.specs.Calls.{accepted, losing, overflowed}
use Rattle.r10_machine.specs.SoundParts.{count_or_0}
use Rattle.r10_lane.specs.Lanes.{Gives}
use Rattle.r10_port.specs.declared.item.Item.{Item}
use Rattle.r10_port.specs.declared.item.Item.TheVariants.{Announce, Entry}
use Rattle.r10_port.specs.declared.rule.InOrder.{InOrder}
use Rattle.r10_port.specs.Items.{last_count_or}

-- ---- rings

-- which ring it is
abbrev pub Ring : Type 0
Ring = Ptr × Ptr × Names × Global

abbrev pub ring_of : End Item Global InOrder → Ring
ring_of end = (end.words, end.slots, end.names, end.heap)

-- how many places it has
abbrev pub places : Ring → ℕ
places ring = ring.2.0

-- ---- the sending end

-- the sending end: its ring, the lane as it would be had nothing been taken, and how many more the end knows to have room for
pub record Sending : Type 0 where
  pub ring : Ring
  pub lane : Lane
  pub free : ℕ

-- everything that was sent
abbrev pub sent : Sending → List Sample
sent port = port.lane.waiting

-- what an offer answers and leaves: it is refused by the first rule on the message and its count that is broken, and nothing
-- changes; else the message is sent, or it is lost where there may be no room for it
abbrev pub Offered : Sending → ℕ → Message → Result (Unit {0}) Refusal → Sending → Type 0
Offered old count message result new = MatchOption (first_broken (offer_checks (Some old.lane) count message))
    (MatchResult result
    (λ _. (new ≡ record old { lane = accepted count message old.lane; free = new.free }) × (old.free ≤ new.free + 1))
    (λ r. (r ≡ Overflow) × (old.free ≡ 0) × (new ≡ record old { lane = overflowed old.lane })))
    (λ r. (result ≡ Err r) × (new ≡ old))

-- a port whose channel lost so many more, which were never offered
abbrev pub with_losses : ℕ → Sending → Sending
with_losses n port = record port { lane = losing n port.lane }

-- ---- the receiving end

-- the receiving end: its ring, what the channel is set to, everything that was received, and what it knows to come next
pub record Receiving : Type 0 where
  pub ring : Ring
  pub spec : ChannelSpec
  pub received : List Sample
  pub ahead : List Item

-- the sample of an item
abbrev pub sample_in : Item → Option Sample
sample_in (Announce spec) = None
sample_in (Entry x) = Some x

-- the next sample, where it is known
abbrev pub next_known : List Item → Option Sample
next_known [] = None
next_known (item ∷ items) = sample_in item

-- the count that the end has reached: of the last sample that was received
abbrev pub reached_by_outlet : Receiving → ℕ
reached_by_outlet outlet = count_or_0 (last_count_or None outlet.received)

-- these samples, which the lane may give, were received, over the same ring; none on a channel without room
pub record TookReceived (old : Receiving) (samples : List Sample) (new : Receiving) : Type 0 where
  pub same : (new.ring ≡ old.ring) × (new.spec ≡ old.spec)
  pub received : new.received ≡ old.received ++ samples
  pub gives : Gives old.spec (reached_by_outlet old) samples (reached_by_outlet new)
  pub rises : reached_by_outlet old ≤ reached_by_outlet new
  pub room : old.spec.capacity ≡ 0 → samples ≡ []

-- what was sent over a ring and not received yet, by its two ends
abbrev pub unreceived : Receiving → Sending → List Sample
unreceived outlet port = drop (length outlet.received) (sent port)
