-- What stands first in bytes.
use Rattle.std.specs.Prelude.{◌≡◌, ℕ, ◌≤◌, Bool, true, false, List, length, take}
use Rattle.r10_packet.specs.Framing.{header_at, has_data_checksum}
use Rattle.r10_body.specs.Foreign.{opaque_at, IsForeignPacket}
use Rattle.r10_body.specs.Faults.{HasFault}
use Rattle.r10_body.specs.declared.fault.FileFault.TheVariants.{Truncated}
use Rattle.r10_survey.specs.Entries.{AreEntriesOf}
use Rattle.r10_survey.specs.declared.look.SeenPacket.{SeenPacket}
use Rattle.r10_survey.specs.declared.look.First.{First}
use Rattle.r10_survey.specs.declared.look.First.TheVariants.{Packet, Stray, More}

-- these are a packet's header, its length, whether it is opaque, whether its data checksum is right, and how many entries it has
pub record IsSeen (s : SeenPacket) (p : List ℕ) : Type 0 where
  pub header : s.header ≡ header_at p
  pub size : s.length ≡ length p
  pub opaque : s.opaque ≡ opaque_at p
  pub right : s.right ≡ has_data_checksum p
  pub entries : List (List ℕ)
  pub entries_are : AreEntriesOf p entries
  pub entry_number : s.entries ≡ length entries

-- a packet of any recorder stands first in bytes, and this is seen of it
pub record IsSeenFirst (bytes : List ℕ) (s : SeenPacket) : Type 0 where
  pub least : 24 ≤ s.length
  pub inside : s.length ≤ length bytes
  pub foreign : IsForeignPacket (take s.length bytes)
  pub seen : IsSeen s (take s.length bytes)

-- a packet stands first in bytes, or a fault does; it is missing bytes only where no more come, and else more are wanted
abbrev pub Sees : List ℕ → Bool → First → Type 0
Sees bytes last (Packet s) = IsSeenFirst bytes s
Sees bytes last (Stray fault) = HasFault bytes fault × (fault ≡ Truncated → last ≡ true)
Sees bytes last More = HasFault bytes Truncated × (last ≡ false)
