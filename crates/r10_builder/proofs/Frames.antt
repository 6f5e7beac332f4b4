-- What is handed out is framed as the packet that says the samples.
use Rattle.std.proofs.Common.{◌≡◌, ℕ, ◌+◌, ◌%◌, Bool, true, false, List, refl, arith}
use Rattle.r10_count.specs.Bytes.{flag_at}
use Rattle.r10_packet.specs.Packet.{framed_bytes}
use Rattle.r10_body.specs.Packets.{Packet, flagged, header_of, packet_body, packet_bytes}
use Rattle.r10_body.specs.declared.entry.Sample.{Sample}
use Rattle.r10_body.specs.declared.spec.ChannelSpec.{ChannelSpec}
use Rattle.r10_builder.specs.Packing.{IsClosedPacket}
use Rattle.r10_builder.specs.declared.closed.Closed.{Closed}

-- the flag of lost data is none of the bits that tell the data checksum
low_bits : (b : Bool) (check : ℕ) → (flag_at 4 b + check) % 4 ≡ check % 4
low_bits true check = omega arith
low_bits false check = omega arith

pub frames : (p : Packet) → framed_bytes (header_of p) (packet_body p) ≡ packet_bytes p
unfolding packet_bytes
frames p = rw (low_bits (flagged p) p.check) refl

pub handed_out : (spec : ChannelSpec) (samples : List Sample) (closed : Closed) (closes : IsClosedPacket spec samples closed) (number : ℕ)
    → framed_bytes (record closed.header { sequence = number }) closed.body.items ≡ packet_bytes (record closes.packet { sequence = number })
handed_out spec samples closed closes number = rw (closes.header, closes.body) (frames (record closes.packet { sequence = number }))
