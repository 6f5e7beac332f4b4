-- What a lane answers to an offer, and what is taken from it.
use Rattle.std.specs.Prelude.{◌≡◌, ℕ, ◌≤◌, List, [], ◌∷◌, ◌++◌, map, Some, None, Result, MatchResult, is_none, if◌then◌else◌}
use Rattle.std.specs.List.{AllByRecursion}
use Rattle.r10_count.specs.Checks.{first_broken}
use Rattle.r10_count.specs.Count.{IsCount}
use Rattle.r10_body.specs.Gaps.{IsSoundGap}
use Rattle.r10_body.specs.Messages.{channel_refusal}
use Rattle.r10_body.specs.declared.entry.Sample.{Sample}
use Rattle.r10_body.specs.declared.message.Message.{Message}
use Rattle.r10_body.specs.declared.refusal.Refusal.{Refusal}
use Rattle.r10_body.specs.declared.spec.ChannelSpec.{ChannelSpec}
use Rattle.r10_machine.specs.Machine.{Lane}
use Rattle.r10_machine.specs.Checks.{offer_checks, offer_refusal}
use Rattle.r10_machine.specs.Calls.{accepted, overflowed}
use Rattle.r10_machine.specs.SoundParts.{Climbs, count_or_0}

-- ---- offers

-- the lane after an offer that was refused: counted as lost where nothing but the room was lacking, else as it was
abbrev pub refused_lane : Lane → ℕ → Message → Lane
refused_lane lane count message = if is_none (first_broken (offer_checks (Some lane) count message)) then overflowed lane else lane

-- what an offer answers and leaves
abbrev pub Offers : Lane → ℕ → Message → Result (Unit {0}) Refusal → Lane → Type 0
Offers old count message result new = MatchResult result
    (λ _. (offer_refusal (Some old) count message ≡ None) × (new ≡ accepted count message old))
    (λ r. (offer_refusal (Some old) count message ≡ Some r) × (new ≡ refused_lane old count message))

-- ---- what waits

-- a message that the channel takes
abbrev pub IsMessageTaken : ChannelSpec → Sample → Type 0
IsMessageTaken spec x = channel_refusal spec x.message ≡ None

abbrev pub counts_of : List Sample → List ℕ
counts_of xs = map (λ x. x.count) xs

-- what may wait in a lane: messages that the channel takes, with gaps that tell no loss of none, whose counts don't fall up to
-- the last accepted one
pub record Waits (spec : ChannelSpec) (last : ℕ) (waiting : List Sample) : Type 0 where
  pub taken : AllByRecursion (IsMessageTaken spec) waiting
  pub gaps : AllByRecursion (λ x. IsSoundGap x.gap) waiting
  pub counts : AllByRecursion (λ x. IsCount x.count) waiting
  pub climbs : Climbs 0 (counts_of waiting) last

-- what may be taken from a lane, from one count that it has reached on and up to another: messages that the channel takes,
-- with gaps that tell no loss of none, whose counts don't fall
pub record Gives (spec : ChannelSpec) (low : ℕ) (samples : List Sample) (high : ℕ) : Type 0 where
  pub passes : AllByRecursion (IsMessageTaken spec) samples
  pub gaps : AllByRecursion (λ x. IsSoundGap x.gap) samples
  pub counts : AllByRecursion (λ x. IsCount x.count) samples
  pub climbs : Climbs low (counts_of samples) high

-- the count of the first sample, or this one
abbrev pub first_count_or : List Sample → ℕ → ℕ
first_count_or [] n = n
first_count_or (x ∷ xs) n = x.count

-- the count that a lane has reached: of the first sample that waits, else of the last that was accepted
abbrev pub reached : Lane → ℕ
reached lane = first_count_or lane.waiting (count_or_0 lane.last)

-- these samples, which the lane may give, left the front of what waits, and nothing else is changed
pub record TookWaiting (old : Lane) (samples : List Sample) (new : Lane) : Type 0 where
  pub front : old.waiting ≡ samples ++ new.waiting
  pub others : new ≡ record old { waiting = new.waiting }
  pub gives : Gives old.spec (reached old) samples (reached new)
  pub rises : reached old ≤ reached new
