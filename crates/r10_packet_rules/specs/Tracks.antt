-- Packets of any recorder, one after the other.
use Rattle.std.specs.Prelude.{◌≡◌, ℕ, ◌≤◌, List, length, count_by, take}
use Rattle.std.specs.List.{AllByRecursion, concat}
use Rattle.r10_packet.specs.Framing.{header_at}
use Rattle.r10_packet.specs.declared.fault.PacketFault.{PacketFault}
use Rattle.r10_packet.specs.declared.fault.PacketFault.TheVariants as packet_faults
use Rattle.r10_body.specs.Foreign.{opaque_at, IsForeignPacket}
use Rattle.r10_body.specs.declared.fault.FileFault.{FileFault}
use Rattle.r10_body.specs.declared.fault.FileFault.TheVariants.{Truncated, Sync, HeaderSum, Length}
use Rattle.r10_packet_rules.specs.declared.file.ForeignTrack.{ForeignTrack}
use Rattle.r10_packet_rules.specs.declared.packet.ForeignPacket.{ForeignPacket}

-- a file's fault, by a packet's fault of framing
abbrev pub named : PacketFault → FileFault
named packet_faults.Truncated = Truncated
named packet_faults.Sync = Sync
named packet_faults.HeaderSum = HeaderSum
named packet_faults.Length = Length

-- the packet that stands first, whoever wrote it: as long as its header tells, and opaque or read
pub record IsFirst (bytes : List ℕ) (packet : ForeignPacket) : Type 0 where
  pub least : 24 ≤ packet.length
  pub inside : packet.length ≤ length bytes
  pub reported : packet.length ≡ (header_at bytes).packet_len
  pub foreign : IsForeignPacket (take packet.length bytes)
  pub opaque : packet.opaque ≡ opaque_at bytes

-- the bytes so far are packets of any recorder, none or more, and the track has their length and the number of opaque ones
pub record TracksForeign (track : ForeignTrack) (bytes : List ℕ) : Type 0 where
  pub packets : List (List ℕ)
  pub bytes_are : bytes ≡ concat packets
  pub foreign : AllByRecursion IsForeignPacket packets
  pub offset : track.offset ≡ length bytes
  pub opaque : track.opaque ≡ count_by opaque_at packets
