-- Reading the packet that stands first in bytes, whatever its filler, and the first fault in it.
use Rattle.std.specs.Prelude.{ℕ, ◌+◌, ◌-◌, ◌/◌, ◌%◌, Bool, ◌&&◌, ◌||◌, List, [], ◌∷◌, ◌++◌, length, take, slice_index, slice_range}
use Rattle.std.specs.Prelude.{Option, nat_le, ◌==◌, if◌then◌else◌}
use Rattle.std.specs.Str.{bytes_eq}
use Rattle.r10_count.specs.Checks.{first_broken}
use Rattle.r10_count.specs.Bytes.{u16_at, u32_at, u64_at}
use Rattle.r10_packet.specs.Sums.{sum_of_words16, data_checksum}
use Rattle.r10_packet.specs.Header.{checksum_bits}
use Rattle.r10_packet.specs.Limits.{longest_packet}
use Rattle.r10_packet.specs.Types.{type_setup}
use Rattle.r10_packet.specs.declared.header.Header.{Header}
use Rattle.r10_packet.specs.declared.fault.PacketFault.{PacketFault}
use Rattle.r10_packet.specs.declared.view.DataSum.{DataSum}
use Rattle.r10_packet.specs.declared.view.DataSum.TheVariants.{NoRoom, Wrong, Right}
use Rattle.r10_packet.specs.declared.fault.PacketFault.TheVariants.{Truncated, Sync, HeaderSum, Length}

-- the fields that stand where a header has them
abbrev pub header_at : List ℕ → Header
header_at bytes = record {
  channel = u16_at bytes 2;
  packet_len = u32_at bytes 4;
  data_len = u32_at bytes 8;
  version = slice_index bytes 12;
  sequence = slice_index bytes 13;
  flags = slice_index bytes 14;
  data_type = slice_index bytes 15;
  counter = u64_at bytes 16 % 281474976710656;
}

-- both lengths are ones that a packet may have; only a setup packet may pass the longest
abbrev pub has_lengths : Header → Bool
has_lengths h =
    nat_le 24 h.packet_len && h.packet_len % 4 == 0 && (nat_le h.packet_len longest_packet || h.data_type == type_setup)
    && nat_le h.data_len (h.packet_len - 24)

-- what must hold of a header, in order, and the fault where it doesn't
abbrev pub header_rules : List ℕ → List (Bool × PacketFault)
header_rules bytes =
    (u16_at bytes 0 == 0xEB25, Sync)
    ∷ (u16_at bytes 22 == sum_of_words16 (take 22 bytes), HeaderSum)
    ∷ (has_lengths (header_at bytes), Length)
    ∷ []

-- the same of a packet
abbrev pub framing_rules : List ℕ → List (Bool × PacketFault)
framing_rules bytes =
    (nat_le 24 (length bytes), Truncated)
    ∷ header_rules bytes
    ++ (nat_le (header_at bytes).packet_len (length bytes), Truncated)
    ∷ []

-- the fault of the first rule that doesn't hold
abbrev pub header_fault : List ℕ → Option PacketFault
header_fault bytes = first_broken (header_rules bytes)

abbrev pub framing_fault : List ℕ → Option PacketFault
framing_fault bytes = first_broken (framing_rules bytes)

-- the body; of a packet with a secondary header, these bytes begin with that header
abbrev pub body_at : List ℕ → List ℕ
body_at bytes = slice_range bytes 24 (24 + (header_at bytes).data_len)

-- where the data checksum stands, after body and filler, which it covers
abbrev pub checksum_start : Header → ℕ
checksum_start h = h.packet_len - checksum_bits h.flags / 8

-- the data checksum has room after the body
abbrev pub has_room_for_checksum : Header → Bool
has_room_for_checksum h = nat_le (24 + h.data_len + checksum_bits h.flags / 8) h.packet_len

-- the data checksum is right
abbrev pub is_right : Header → List ℕ → Bool
is_right h bytes =
    bytes_eq (slice_range bytes (checksum_start h) h.packet_len)
    (data_checksum (checksum_bits h.flags) (slice_range bytes 24 (checksum_start h)))

abbrev pub has_data_checksum : List ℕ → Bool
has_data_checksum bytes = has_room_for_checksum (header_at bytes) && is_right (header_at bytes) bytes

-- how the data checksum is
abbrev pub data_sum_of : Header → List ℕ → DataSum
data_sum_of h bytes = if has_room_for_checksum h then (if is_right h bytes then Right else Wrong) else NoRoom
