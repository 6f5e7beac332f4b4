-- What no offer changes.
use Rattle.std.proofs.Common.{◌≡◌, ℕ, ◌+◌, ◌≤◌, Option, Some, None, Result, Ok, Err, MatchOption, MatchResult, refl, ap, ◌∙◌}
use Rattle.r10_count.specs.Checks.{first_broken}
use Rattle.r10_body.specs.declared.message.Message.{Message}
use Rattle.r10_body.specs.declared.refusal.Refusal.{Refusal}
use Rattle.r10_body.specs.declared.refusal.Refusal.TheVariants.{Overflow}
use Rattle.r10_machine.specs.Checks.{offer_checks}
use Rattle.r10_machine.specs.Calls.{accepted, overflowed}
use Rattle.r10_port.specs.Ends.{Sending, Offered}

-- a port stays on its ring and on its channel
pub offered_same : (old : Sending) (count : ℕ) (message : Message) (answer : Result (Unit {0}) Refusal) (new : Sending) → Offered old count message answer new
    → (new.ring ≡ old.ring) × (new.lane.spec ≡ old.lane.spec)
offered_same old count message answer new offered = by (first_broken (offer_checks (Some old.lane) count message)) answer offered
  where
    same : (port : Sending) → new ≡ port → (port.ring ≡ old.ring) × (port.lane.spec ≡ old.lane.spec) → (new.ring ≡ old.ring) × (new.lane.spec ≡ old.lane.spec)
    same port is kept = (ap (λ (p : Sending). p.ring) is ∙ kept.0, ap (λ (p : Sending). p.lane.spec) is ∙ kept.1)

    by : (first : Option Refusal) (answer : Result (Unit {0}) Refusal)
        → MatchOption first
        (MatchResult answer
        (λ _. (new ≡ record old { lane = accepted count message old.lane; free = new.free }) × (old.free ≤ new.free + 1))
        (λ r. (r ≡ Overflow) × (old.free ≡ 0) × (new ≡ record old { lane = overflowed old.lane })))
        (λ r. (answer ≡ Err r) × (new ≡ old))
        → (new.ring ≡ old.ring) × (new.lane.spec ≡ old.lane.spec)
    by (Some r) answer (refused, is) = same old is (refl, refl)
    by None (Ok x) (is, room) = same (record old { lane = accepted count message old.lane; free = new.free }) is (refl, refl)
    by None (Err r) (overflow, full, is) = same (record old { lane = overflowed old.lane }) is (refl, refl)
