-- What the strict reading of the packet that stands first in bytes finds.
use Rattle.std.specs.Prelude.{ℕ, ◌≤◌, Bool, List}
use Rattle.r10_body.specs.Packets.{Packet}
use Rattle.r10_body.specs.Foreign.{IsForeignPacket}
use Rattle.r10_body.specs.Faults.{ReadsPacket, BreaksRule, first_packet}
use Rattle.r10_packet_rules.specs.Facts.{AreFactsOf}
use Rattle.r10_packet_rules.specs.declared.strict.StrictReading.{StrictReading}
use Rattle.r10_packet_rules.specs.declared.strict.StrictReading.TheVariants.{Strict, Breaks}

-- whatever stands before it, the packet that stands first breaks this rule and none below it, and it is one of the first three
pub record BreaksEarlyRuleFirst (bytes : List ℕ) (n : ℕ) : Type 0 where
  pub early : n ≤ 3
  pub broken : (before : List Packet) (closed : Bool) → BreaksRule before bytes closed n
  pub least : (before : List Packet) (closed : Bool) (m : ℕ) → BreaksRule before bytes closed m → n ≤ m

-- the packet that stands first is one of the recorder's, and these are its facts; or it is none, and where it is a packet of
-- any recorder's it breaks this rule first
abbrev pub FindsPacket : List ℕ → StrictReading → Type 0
FindsPacket bytes (Strict facts) = (p : Packet) × ReadsPacket bytes p × AreFactsOf facts p
FindsPacket bytes (Breaks n) = ((p : Packet) → ReadsPacket bytes p → ⊥)
    × (IsForeignPacket (first_packet bytes) → BreaksEarlyRuleFirst bytes n)
