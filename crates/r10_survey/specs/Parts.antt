-- A file's bytes as packets, and as bytes that no packet has.
use Rattle.std.specs.Prelude.{◌≡◌, ℕ, List, [], ◌∷◌, ◌++◌}
use Rattle.r10_body.specs.Foreign.{IsForeignPacket}
use Rattle.r10_body.specs.Faults.{HasFault}
use Rattle.r10_body.specs.declared.fault.FileFault.{FileFault}

-- a packet of any recorder, or a byte that no packet has
pub data Part : Type 0 where
  packet : List ℕ → Part
  stray : ℕ → Part

-- no packet of any recorder stands first in bytes: it has some fault
abbrev pub IsBroken : List ℕ → Type 0
IsBroken bytes = (fault : FileFault) × HasFault bytes fault

-- from the front on bytes are these parts, and then this rest: where a packet stands, it is the next part, whole; where none
-- stands, one byte is, and the place after it is looked at
abbrev pub AreParts : List Part → List ℕ → List ℕ → Type 0
AreParts [] bytes rest = bytes ≡ rest
AreParts (packet p ∷ parts) bytes rest = (more : List ℕ) × (bytes ≡ p ++ more) × IsForeignPacket p × AreParts parts more rest
AreParts (stray b ∷ parts) bytes rest = (more : List ℕ) × (bytes ≡ b ∷ more) × IsBroken bytes × AreParts parts more rest

-- the packets among parts
abbrev pub packets_of : List Part → List (List ℕ)
packets_of [] = []
packets_of (packet p ∷ parts) = p ∷ packets_of parts
packets_of (stray b ∷ parts) = packets_of parts
