-- What a header says to the first rules, and the packet that a header and a content are, by itself.
use Rattle.std.specs.Prelude.{◌≡◌, ℕ, ◌%◌, ◌≤◌, ◌==◌, ◌||◌, Bool, IsTrue, bit_and, length}
use Rattle.r10_count.specs.Bytes.{bit_of}
use Rattle.r10_packet.specs.Limits.{longest_packet}
use Rattle.r10_packet.specs.Types.{type_event, type_index, type_setup, type_time, type_user}
use Rattle.r10_packet.specs.declared.header.Header.{Header}
use Rattle.r10_body.specs.Content.{Content, type_of}
use Rattle.r10_body.specs.Gaps.{gap_of_flag}
use Rattle.r10_body.specs.Packets.{Packet, packet_bytes}
use Rattle.r10_packet_rules.specs.Facts.{AreFactsOf}
use Rattle.r10_packet_rules.specs.declared.facts.Facts.{Facts}

-- this version and these flags, and not too long
abbrev pub IsOwnHeader : Header → Type 0
IsOwnHeader h = (h.version ≡ 8) × (bit_and h.flags 0xEC ≡ 0) × (h.packet_len ≤ longest_packet)

-- packets of this type have no data checksum
abbrev pub goes_unchecked : ℕ → Bool
goes_unchecked type = type == type_setup || type == type_time || type == type_event || type == type_index || type == type_user

-- such a packet has none
abbrev pub IsCheckedRight : Header → Type 0
IsCheckedRight h = IsTrue (goes_unchecked h.data_type) → h.flags % 4 ≡ 0

abbrev pub packet_of : Header → Content → Packet
packet_of h content = record {
  channel = h.channel;
  sequence = h.sequence;
  gap = gap_of_flag (bit_of 4 h.flags);
  check = h.flags % 4;
  counter = h.counter;
  content = content;
}

-- these are the facts of that packet, where it has the header's data type and length
abbrev pub AreFactsOfHeader : Facts → Header → Content → Type 0
AreFactsOfHeader f h content = h.data_type ≡ type_of content → h.packet_len ≡ length (packet_bytes (packet_of h content))
    → AreFactsOf f (packet_of h content)
