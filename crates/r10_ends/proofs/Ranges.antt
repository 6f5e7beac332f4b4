-- Offers whose count has more than 48 bits.
use Rattle.std.proofs.Common.{◌≡◌, ℕ, ◌≤◌, ◌^◌, Bool, true, false, nat_lt, Option, Some, Err, refl}
use Rattle.std.proofs.lemmas.Bool.{ltb-false, ltb-true}
use Rattle.r10_body.specs.Messages.{channel_refusal}
use Rattle.r10_body.specs.declared.message.Message.{Message}
use Rattle.r10_body.specs.declared.refusal.Refusal.{Refusal}
use Rattle.r10_body.specs.declared.spec.ChannelSpec.{ChannelSpec}
use Rattle.r10_count.specs.Count.{IsCount}
use Rattle.r10_count.proofs.Rules.{rules_stop}
use Rattle.r10_machine.specs.Checks.{first_broken, message_checks, count_checks, offer_checks, taking_checks}
use Rattle.r10_port.specs.Ends.{Offered, Sending}

-- a message that the channel does not take
pub not_taken : (spec : ChannelSpec) (last : Option ℕ) (count : ℕ) (m : Message) (r : Refusal) → channel_refusal spec m ≡ Some r → first_broken (taking_checks spec last count m) ≡ Some r
not_taken spec last count m r is = rules_stop (message_checks spec m) (count_checks last count) r is

-- an offer that is refused by the first rule that it breaks leaves the port
pub refused_first : (old : Sending) (count : ℕ) (m : Message) (r : Refusal) → first_broken (offer_checks (Some old.lane) count m) ≡ Some r → Offered old count m (Err r) old
refused_first old count m r is = rw is (refl, refl)

-- what is no count of 48 bits
pub far_of : (count : ℕ) → (IsCount count → ⊥) → 2 ^ 48 ≤ count
far_of count none = by (nat_lt count 281474976710656) refl
  where
    by : (b : Bool) → nat_lt count 281474976710656 ≡ b → 2 ^ 48 ≤ count
    by true e = absurd (none (ltb-true count 281474976710656 e))
    by false e = ltb-false count 281474976710656 e
