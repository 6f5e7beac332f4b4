-- The first recording written out: setup, time and two UART messages; packets of the other kinds; what messages cost; and
-- packets of other recorders.
use Rattle.std.specs.Prelude.{◌≡◌, ℕ, ◌+◌, ◌*◌, ◌^◌, true, false, List, [], ◌∷◌, ◌++◌, length, map, refl, replicate, take, drop}
use Rattle.std.specs.Prelude.{Some, None, nat_le}
use Rattle.std.proofs.Common.{inr}
use Rattle.r10_packet.specs.Header.{header_bytes}
use Rattle.r10_count.specs.declared.civil.Parts.{Parts}
use Rattle.r10_uart.specs.declared.entry.UartEntry.{UartEntry}
use Rattle.r10_a429.specs.declared.entry.ArincEntry.{ArincEntry}
use Rattle.r10_body.specs.Bodies.{content_of, message_type}
use Rattle.r10_body.specs.Content.{body_of, setup, time, uart, arinc, node, root, report}
use Rattle.r10_indexbody.specs.Vectors.{at_1000, a_node_entry, a_root_entry}
use Rattle.r10_body.specs.Rules.{node_entries}
use Rattle.r10_body.specs.Packets.{Packet, packet_bytes, file_bytes, file_entries}
use Rattle.r10_body.specs.Cost.{message_cost, entry_cost, file_cost}
use Rattle.r10_body.specs.Messages.{alone_len, arinc_message, bus_message, channel_refusal, data_message, discrete_message}
use Rattle.r10_body.specs.Messages.{is_in_range, is_kind, uart_message}
use Rattle.r10_body.specs.Foreign.{opaque_at, is_opaque_packet, IsForeignPacket}
use Rattle.r10_body.specs.Faults.{HasFault, IsFaulty}
use Rattle.r10_body.specs.declared.fault.FileFault.TheVariants.{Truncated, HeaderSum}
use Rattle.r10_body.specs.declared.entry.Entry.{Entry}
use Rattle.r10_body.specs.declared.gap.Gap.TheVariants.{Whole, Lost}
use Rattle.r10_body.specs.declared.message.Kind.{Kind}
use Rattle.r10_body.specs.declared.message.Kind.TheVariants as kinds
use Rattle.r10_body.specs.declared.message.Message.{Message}
use Rattle.r10_body.specs.declared.message.Message.TheVariants as messages
use Rattle.r10_body.specs.declared.message.Message.TheVariants.{Time}
use Rattle.r10_body.specs.declared.refusal.Refusal.TheVariants.{WrongKind, BadMessage, TooLong}
use Rattle.r10_body.specs.declared.spec.ChannelSpec.{ChannelSpec}

-- ---- packets

abbrev pub leap_day : Parts
leap_day = record { year = 2024; month = 2; day = 29; hour = 12; minute = 34; second = 56; centi = 78 }

abbrev pub a_setup_packet : Packet
a_setup_packet = record {
  channel = 0;
  sequence = 0;
  gap = Whole;
  check = 0;
  counter = 1000;
  content = setup (0x41 ∷ 0x42 ∷ 0x43 ∷ 0x44 ∷ []);
}

abbrev pub a_time_packet : Packet
a_time_packet = record { channel = 1; sequence = 0; gap = Whole; check = 0; counter = 1000; content = time leap_day }

abbrev pub two_messages : List UartEntry
two_messages = record { count = 1000; message = record { parity = false; sub = 0; bytes = 0x41 ∷ 0x42 ∷ 0x43 ∷ [] } }
    ∷ record { count = 1010; message = record { parity = false; sub = 0; bytes = [] } } ∷ []

abbrev pub uart_packet : Packet
uart_packet = record { channel = 5; sequence = 0; gap = Whole; check = 0; counter = 1000; content = uart two_messages }

pub setup-bytes : packet_bytes a_setup_packet ≡
    (0x25 ∷ 0xEB ∷ 0x00 ∷ 0x00 ∷ 0x20 ∷ 0x00 ∷ 0x00 ∷ 0x00 ∷ 0x08 ∷ 0x00 ∷ 0x00 ∷ 0x00 ∷ 0x08 ∷ 0x00 ∷ 0x00 ∷ 0x01 ∷ 0xE8 ∷ 0x03
    ∷ 0x00 ∷ 0x00 ∷ 0x00 ∷ 0x00 ∷ 0x3D ∷ 0xF0 ∷ [])
    ++ (0x0C ∷ 0x00 ∷ 0x00 ∷ 0x00 ∷ 0x41 ∷ 0x42 ∷ 0x43 ∷ 0x44 ∷ [])
unfolding packet_bytes header_bytes
setup-bytes = refl

pub time-bytes : packet_bytes a_time_packet ≡
    (0x25 ∷ 0xEB ∷ 0x01 ∷ 0x00 ∷ 0x24 ∷ 0x00 ∷ 0x00 ∷ 0x00 ∷ 0x0C ∷ 0x00 ∷ 0x00 ∷ 0x00 ∷ 0x08 ∷ 0x00 ∷ 0x00 ∷ 0x11 ∷ 0xE8 ∷ 0x03
    ∷ 0x00 ∷ 0x00 ∷ 0x00 ∷ 0x00 ∷ 0x46 ∷ 0x00 ∷ [])
    ++ (0x01 ∷ 0x03 ∷ 0x00 ∷ 0x00 ∷ 0x78 ∷ 0x56 ∷ 0x34 ∷ 0x12 ∷ 0x29 ∷ 0x02 ∷ 0x24 ∷ 0x20 ∷ [])
unfolding packet_bytes header_bytes
time-bytes = refl

abbrev pub two_messages_body : List ℕ
two_messages_body =
    (0x00 ∷ 0x00 ∷ 0x00 ∷ 0x80 ∷ [])
    ++ (0xE8 ∷ 0x03 ∷ 0x00 ∷ 0x00 ∷ 0x00 ∷ 0x00 ∷ 0x00 ∷ 0x00 ∷ 0x03 ∷ 0x00 ∷ 0x00 ∷ 0x00 ∷ 0x41 ∷ 0x42 ∷ 0x43 ∷ 0x00 ∷ [])
    ++ (0xF2 ∷ 0x03 ∷ 0x00 ∷ 0x00 ∷ 0x00 ∷ 0x00 ∷ 0x00 ∷ 0x00 ∷ 0x00 ∷ 0x00 ∷ 0x00 ∷ 0x00 ∷ [])

pub uart-bytes : packet_bytes uart_packet ≡
    (0x25 ∷ 0xEB ∷ 0x05 ∷ 0x00 ∷ 0x38 ∷ 0x00 ∷ 0x00 ∷ 0x00 ∷ 0x20 ∷ 0x00 ∷ 0x00 ∷ 0x00 ∷ 0x08 ∷ 0x00 ∷ 0x00 ∷ 0x50 ∷ 0xE8 ∷ 0x03
    ∷ 0x00 ∷ 0x00 ∷ 0x00 ∷ 0x00 ∷ 0x72 ∷ 0x3F ∷ [])
    ++ two_messages_body
unfolding packet_bytes header_bytes
uart-bytes = refl

-- the same with a data checksum of 8, 16 and 32 bits: the flags tell it, and filler keeps whole words
pub uart-8-bytes : packet_bytes (record uart_packet { check = 1 }) ≡
    (0x25 ∷ 0xEB ∷ 0x05 ∷ 0x00 ∷ 0x3C ∷ 0x00 ∷ 0x00 ∷ 0x00 ∷ 0x20 ∷ 0x00 ∷ 0x00 ∷ 0x00 ∷ 0x08 ∷ 0x00 ∷ 0x01 ∷ 0x50 ∷ 0xE8 ∷ 0x03
    ∷ 0x00 ∷ 0x00 ∷ 0x00 ∷ 0x00 ∷ 0x77 ∷ 0x3F ∷ [])
    ++ two_messages_body ++ (0x00 ∷ 0x00 ∷ 0x00 ∷ 0x29 ∷ [])
unfolding packet_bytes header_bytes
uart-8-bytes = refl

pub uart-16-bytes : packet_bytes (record uart_packet { check = 2 }) ≡
    (0x25 ∷ 0xEB ∷ 0x05 ∷ 0x00 ∷ 0x3C ∷ 0x00 ∷ 0x00 ∷ 0x00 ∷ 0x20 ∷ 0x00 ∷ 0x00 ∷ 0x00 ∷ 0x08 ∷ 0x00 ∷ 0x02 ∷ 0x50 ∷ 0xE8 ∷ 0x03
    ∷ 0x00 ∷ 0x00 ∷ 0x00 ∷ 0x00 ∷ 0x78 ∷ 0x3F ∷ [])
    ++ two_messages_body ++ (0x00 ∷ 0x00 ∷ 0x61 ∷ 0xCA ∷ [])
unfolding packet_bytes header_bytes
uart-16-bytes = refl

pub uart-32-bytes : packet_bytes (record uart_packet { check = 3 }) ≡
    (0x25 ∷ 0xEB ∷ 0x05 ∷ 0x00 ∷ 0x3C ∷ 0x00 ∷ 0x00 ∷ 0x00 ∷ 0x20 ∷ 0x00 ∷ 0x00 ∷ 0x00 ∷ 0x08 ∷ 0x00 ∷ 0x03 ∷ 0x50 ∷ 0xE8 ∷ 0x03
    ∷ 0x00 ∷ 0x00 ∷ 0x00 ∷ 0x00 ∷ 0x79 ∷ 0x3F ∷ [])
    ++ two_messages_body ++ (0x1E ∷ 0x4A ∷ 0x43 ∷ 0x80 ∷ [])
unfolding packet_bytes header_bytes
uart-32-bytes = refl

-- ---- packets of the other kinds

-- on bus B, a command and a data word at 2000
abbrev pub a_bus_message : Message
a_bus_message = bus_message 0x2000 0 (0x0821 ∷ 0xABCD ∷ [])

abbrev pub bus_packet : Packet
bus_packet = record { channel = 7; sequence = 0; gap = Whole; check = 0; counter = 2000; content = content_of 0 2000 a_bus_message }

pub bus-bytes : packet_bytes bus_packet ≡
    (0x25 ∷ 0xEB ∷ 0x07 ∷ 0x00 ∷ 0x30 ∷ 0x00 ∷ 0x00 ∷ 0x00 ∷ 0x16 ∷ 0x00 ∷ 0x00 ∷ 0x00 ∷ 0x08 ∷ 0x00 ∷ 0x00 ∷ 0x19 ∷ 0xD0 ∷ 0x07
    ∷ 0x00 ∷ 0x00 ∷ 0x00 ∷ 0x00 ∷ 0x4A ∷ 0x0C ∷ [])
    ++ (0x01 ∷ 0x00 ∷ 0x00 ∷ 0x00 ∷ [])
    ++ (0xD0 ∷ 0x07 ∷ 0x00 ∷ 0x00 ∷ 0x00 ∷ 0x00 ∷ 0x00 ∷ 0x00 ∷ 0x00 ∷ 0x20 ∷ 0x00 ∷ 0x00 ∷ 0x04 ∷ 0x00 ∷ 0x21 ∷ 0x08 ∷ 0xCD ∷ 0xAB
    ∷ [])
    ++ (0x00 ∷ 0x00 ∷ [])
unfolding packet_bytes header_bytes
bus-bytes = refl

-- three words of the high speed bus 1, at 5000, 5100 and 5300
abbrev pub arinc_word : ℕ → ArincEntry
arinc_word count =
    record { count = count; message = record { bus = 1; format = false; parity = false; high = true; word = 0x12345678 } }

pub arinc-body : body_of 5000 (arinc (arinc_word 5000 ∷ arinc_word 5100 ∷ arinc_word 5300 ∷ [])) ≡
    (0x03 ∷ 0x00 ∷ 0x00 ∷ 0x00 ∷ [])
    ++ (0x00 ∷ 0x00 ∷ 0x20 ∷ 0x01 ∷ 0x78 ∷ 0x56 ∷ 0x34 ∷ 0x12 ∷ [])
    ++ (0x64 ∷ 0x00 ∷ 0x20 ∷ 0x01 ∷ 0x78 ∷ 0x56 ∷ 0x34 ∷ 0x12 ∷ [])
    ++ (0xC8 ∷ 0x00 ∷ 0x20 ∷ 0x01 ∷ 0x78 ∷ 0x56 ∷ 0x34 ∷ 0x12 ∷ [])
arinc-body = refl

-- the first and the last of eight discretes at 3000
pub discrete-body : body_of 3000 (content_of 8 3000 (discrete_message 0x81)) ≡
    0x40 ∷ 0x00 ∷ 0x00 ∷ 0x00 ∷ 0xB8 ∷ 0x0B ∷ 0x00 ∷ 0x00 ∷ 0x00 ∷ 0x00 ∷ 0x00 ∷ 0x00 ∷ 0x81 ∷ 0x00 ∷ 0x00 ∷ 0x00 ∷ []
discrete-body = refl

-- the second event of number 3 at 1000
pub event-body : body_of 1000 (content_of 0 1000 (messages.Event 3 1)) ≡
    0x01 ∷ 0x00 ∷ 0x00 ∷ 0x00 ∷ 0xE8 ∷ 0x03 ∷ 0x00 ∷ 0x00 ∷ 0x00 ∷ 0x00 ∷ 0x00 ∷ 0x00 ∷ 0x03 ∷ 0x10 ∷ 0x00 ∷ 0x10 ∷ []
event-body = refl

-- ABC with a data error on subchannel 1 of a message channel
pub message-body : body_of 1000 (content_of 0 1000 (data_message true false 1 (0x41 ∷ 0x42 ∷ 0x43 ∷ []))) ≡
    0x01 ∷ 0x00 ∷ 0x00 ∷ 0x00 ∷ 0xE8 ∷ 0x03 ∷ 0x00 ∷ 0x00 ∷ 0x00 ∷ 0x00 ∷ 0x00 ∷ 0x00 ∷ 0x03 ∷ 0x00 ∷ 0x01 ∷ 0x80 ∷ 0x41 ∷ 0x42
    ∷ 0x43 ∷ 0x00 ∷ []
message-body = refl

-- a message of each kind, in the order of the kinds, then a time and an event
abbrev pub one_of_each : List Message
one_of_each =
    uart_message false 7 (0x41 ∷ 0x42 ∷ 0x43 ∷ []) ∷ a_bus_message ∷ arinc_message 1 false false true 0x12345678
    ∷ discrete_message 0x81
    ∷ data_message true false 1 (0x41 ∷ []) ∷ Time leap_day ∷ messages.Event 3 1 ∷ []

-- ---- what channels take

abbrev pub channel_of : Kind → ℕ → ChannelSpec
channel_of kind bits = record { id = 7; kind = kind; capacity = 2; check = 0; bytes = 524288; number = 65535; bits = bits }

pub bus-taken : channel_refusal (channel_of kinds.Bus1553 0) a_bus_message ≡ None
bus-taken = refl

pub bus-longest : channel_refusal (channel_of kinds.Bus1553 0) (bus_message 0x3E38 0 (replicate 36 0)) ≡ None
bus-longest = refl

-- 37 words, and a bit of the block status that has no name; the status is judged first
pub bus-too-long : channel_refusal (channel_of kinds.Bus1553 0) (bus_message 0 0 (replicate 37 0)) ≡ Some TooLong
bus-too-long = refl

pub bus-bad-status : channel_refusal (channel_of kinds.Bus1553 0) (bus_message 0x4000 0 (replicate 37 0)) ≡ Some BadMessage
bus-bad-status = refl

-- each bit that has no name
pub bus-unnamed : map (λ bit. is_in_range 0 (bus_message (2 ^ bit) 0 [])) (0 ∷ 1 ∷ 2 ∷ 6 ∷ 7 ∷ 8 ∷ 14 ∷ 15 ∷ []) ≡ replicate 8 false
bus-unnamed = refl

-- another kind's message, whatever is wrong with it besides
pub bus-on-uart : channel_refusal (channel_of kinds.Uart 0) (bus_message 0x4000 0 (replicate 37 0)) ≡ Some WrongKind
bus-on-uart = refl

pub event-on-message : channel_refusal (channel_of kinds.Message 0) (messages.Event 3 0) ≡ Some WrongKind
event-on-message = refl

-- the eighth of eight discretes, and a ninth
pub last-state : channel_refusal (channel_of kinds.Discrete 8) (discrete_message 0x80) ≡ None
last-state = refl

pub state-beyond : channel_refusal (channel_of kinds.Discrete 8) (discrete_message 0x100) ≡ Some BadMessage
state-beyond = refl

pub discrete-ranges : map (λ (one : ℕ × ℕ). is_in_range one.0 (discrete_message one.1))
    ((1, 1) ∷ (1, 2) ∷ (31, 0x7FFFFFFF) ∷ (31, 0x80000000) ∷ (32, 0) ∷ []) ≡ true ∷ false ∷ true ∷ false ∷ false ∷ []
discrete-ranges = refl

pub no-discretes : channel_refusal (channel_of kinds.Discrete 0) (discrete_message 0) ≡ Some BadMessage
no-discretes = refl

pub arinc-taken : channel_refusal (channel_of kinds.Arinc 0) (arinc_message 255 true true true 0xFFFFFFFF) ≡ None
arinc-taken = refl

pub message-taken : channel_refusal (channel_of kinds.Message 0) (data_message true true 16383 []) ≡ None
message-taken = refl

pub message-sub-too-large : channel_refusal (channel_of kinds.Message 0) (data_message false false 16384 []) ≡ Some BadMessage
message-sub-too-large = refl

pub uart-taken : channel_refusal (channel_of kinds.Uart 0) (uart_message false 16383 []) ≡ None
uart-taken = refl

pub uart-sub-too-large : channel_refusal (channel_of kinds.Uart 0) (uart_message false 16384 []) ≡ Some BadMessage
uart-sub-too-large = refl

-- each kind takes its own message alone, and none a time or an event
pub kinds-take : map (λ kind. map (is_kind kind) one_of_each)
    (kinds.Uart ∷ kinds.Bus1553 ∷ kinds.Arinc ∷ kinds.Discrete ∷ kinds.Message ∷ []) ≡
    (true ∷ false ∷ false ∷ false ∷ false ∷ false ∷ false ∷ [])
    ∷ (false ∷ true ∷ false ∷ false ∷ false ∷ false ∷ false ∷ [])
    ∷ (false ∷ false ∷ true ∷ false ∷ false ∷ false ∷ false ∷ [])
    ∷ (false ∷ false ∷ false ∷ true ∷ false ∷ false ∷ false ∷ [])
    ∷ (false ∷ false ∷ false ∷ false ∷ true ∷ false ∷ false ∷ [])
    ∷ []
kinds-take = refl

pub data-types : map message_type one_of_each ≡ 0x50 ∷ 0x19 ∷ 0x38 ∷ 0x29 ∷ 0x30 ∷ 0x11 ∷ 0x02 ∷ []
data-types = refl

-- 88 bytes are as long as 128 bytes for a packet allow, 86 with a data checksum of 8 or 16 bits, and 84 with one of 32
pub longest : map (λ (one : ℕ × ℕ). nat_le (alone_len one.0 (uart_message false 0 (replicate one.1 0))) 128)
    ((0, 88) ∷ (0, 89) ∷ (8, 86) ∷ (8, 87) ∷ (16, 86) ∷ (16, 87) ∷ (32, 84) ∷ (32, 85) ∷ []) ≡ true ∷ false ∷ true ∷ false ∷ true
    ∷ false ∷ true ∷ false ∷ []
longest = refl

pub event-ranges : map (is_in_range 0) (messages.Event 4095 65535 ∷ messages.Event 4096 0 ∷ []) ≡ true ∷ false ∷ []
event-ranges = refl

-- ---- a file

-- setup, time and data
abbrev pub data_packets : List Packet
data_packets = a_setup_packet ∷ a_time_packet ∷ uart_packet ∷ []

pub data-len : length (file_bytes data_packets) ≡ 124
unfolding packet_bytes header_bytes
data-len = refl

-- what names them, and what names that
abbrev pub a_node_packet : Packet
a_node_packet = record {
  channel = 0;
  sequence = 1;
  gap = Whole;
  check = 0;
  counter = 1000;
  content = node (a_node_entry 0x01 0 0 ∷ a_node_entry 0x11 1 32 ∷ a_node_entry 0x50 5 68 ∷ []);
}

abbrev pub a_root_packet : Packet
a_root_packet = record {
  channel = 0;
  sequence = 2;
  gap = Whole;
  check = 0;
  counter = 1000;
  content = root (a_root_entry 124 ∷ a_root_entry 212 ∷ []);
}

pub node-bytes : packet_bytes a_node_packet ≡
    (0x25 ∷ 0xEB ∷ 0x00 ∷ 0x00 ∷ 0x58 ∷ 0x00 ∷ 0x00 ∷ 0x00 ∷ 0x40 ∷ 0x00 ∷ 0x00 ∷ 0x00 ∷ 0x08 ∷ 0x01 ∷ 0x00 ∷ 0x03 ∷ 0xE8 ∷ 0x03
    ∷ 0x00 ∷ 0x00 ∷ 0x00 ∷ 0x00 ∷ 0xAD ∷ 0xF3 ∷ [])
    ++ (0x03 ∷ 0x00 ∷ 0x00 ∷ 0x80 ∷ [])
    ++ at_1000 ++ (0x00 ∷ 0x00 ∷ 0x01 ∷ 0x00 ∷ 0 ∷ 0 ∷ 0 ∷ 0 ∷ 0 ∷ 0 ∷ 0 ∷ 0 ∷ [])
    ++ at_1000 ++ (0x01 ∷ 0x00 ∷ 0x11 ∷ 0x00 ∷ 32 ∷ 0 ∷ 0 ∷ 0 ∷ 0 ∷ 0 ∷ 0 ∷ 0 ∷ [])
    ++ at_1000 ++ (0x05 ∷ 0x00 ∷ 0x50 ∷ 0x00 ∷ 68 ∷ 0 ∷ 0 ∷ 0 ∷ 0 ∷ 0 ∷ 0 ∷ 0 ∷ [])
unfolding packet_bytes header_bytes
node-bytes = refl

pub root-bytes : packet_bytes a_root_packet ≡
    (0x25 ∷ 0xEB ∷ 0x00 ∷ 0x00 ∷ 0x3C ∷ 0x00 ∷ 0x00 ∷ 0x00 ∷ 0x24 ∷ 0x00 ∷ 0x00 ∷ 0x00 ∷ 0x08 ∷ 0x02 ∷ 0x00 ∷ 0x03 ∷ 0xE8 ∷ 0x03
    ∷ 0x00 ∷ 0x00 ∷ 0x00 ∷ 0x00 ∷ 0x75 ∷ 0xF4 ∷ [])
    ++ (0x02 ∷ 0x00 ∷ 0x00 ∷ 0x00 ∷ []) ++ at_1000 ++ (124 ∷ 0 ∷ 0 ∷ 0 ∷ 0 ∷ 0 ∷ 0 ∷ 0 ∷ []) ++ at_1000
    ++ (212 ∷ 0 ∷ 0 ∷ 0 ∷ 0 ∷ 0 ∷ 0 ∷ 0 ∷ [])
unfolding packet_bytes header_bytes
root-bytes = refl

abbrev pub a_recording : List Packet
a_recording = data_packets ++ a_node_packet ∷ a_root_packet ∷ []

pub recording-len : length (file_bytes a_recording) ≡ 272
unfolding packet_bytes header_bytes
recording-len = refl

-- a setup, a time and 257 packets more are named by nodes of 100, 100 and 59 entries
pub node-counts : map
    (λ k. length (take 100 (drop (100 * k) (node_entries 0 (a_setup_packet ∷ a_time_packet ∷ replicate 257 uart_packet)))))
    (0 ∷ 1 ∷ 2 ∷ 3 ∷ []) ≡ 100 ∷ 100 ∷ 59 ∷ 0 ∷ []
node-counts = refl

abbrev pub entry : ℕ → ℕ → List ℕ → Entry
entry channel count bytes = record { channel = channel; count = count; message = uart_message false 0 bytes; gap = Whole }

abbrev pub a_time_entry : Entry
a_time_entry = record { channel = 1; count = 1000; message = Time leap_day; gap = Whole }

abbrev pub recorded : List Entry
recorded = a_time_entry ∷ entry 5 1000 (0x41 ∷ 0x42 ∷ 0x43 ∷ []) ∷ entry 5 1010 [] ∷ []

-- an index says no entry
pub recording-entries : file_entries a_recording ≡ recorded
recording-entries = refl

-- only the first entry of a flagged packet has a gap
pub flagged-entries : file_entries (record uart_packet { gap = Lost 3 } ∷ []) ≡
    record { channel = 5; count = 1000; message = uart_message false 0 (0x41 ∷ 0x42 ∷ 0x43 ∷ []); gap = Lost 3 } ∷ entry 5 1010 []
    ∷ []
flagged-entries = refl

-- ---- costs

-- a setup of 100 bytes and a time
pub start-cost : file_cost (replicate 100 0) (a_time_entry ∷ []) ≡ 364
start-cost = refl

-- with one message of 4 bytes 28 of 512 bytes are free
pub four-bytes-cost : file_cost (replicate 100 0) (a_time_entry ∷ entry 5 1001 (1 ∷ 2 ∷ 3 ∷ 4 ∷ []) ∷ []) + 28 ≡ 512
four-bytes-cost = refl

-- a setup of 4 bytes and a time leave 30,964 bytes of the 61 blocks after the directory
pub free : file_cost (replicate 4 0) (a_time_entry ∷ []) + 30964 ≡ 61 * 512
free = refl

-- a message of 3 bytes makes a packet of 44 bytes, and of 48 with a data checksum
pub alone : alone_len 0 (uart_message false 0 (0x41 ∷ 0x42 ∷ 0x43 ∷ [])) ≡ length
    (packet_bytes (record uart_packet { content = uart (take 1 two_messages) }))
unfolding packet_bytes header_bytes
alone = refl

pub alone-8 : alone_len 8 (uart_message false 0 (0x41 ∷ 0x42 ∷ 0x43 ∷ [])) ≡ length
    (packet_bytes (record uart_packet { check = 1; content = uart (take 1 two_messages) }))
unfolding packet_bytes header_bytes
alone-8 = refl

-- three bytes, two words of a bus, a word of an ARINC bus, states, a byte, a time and an event
pub kinds-costs : map message_cost one_of_each ≡ 15 ∷ 18 ∷ 8 ∷ 12 ∷ 13 ∷ 8 ∷ 12 ∷ []
kinds-costs = refl

pub bus-alone : alone_len 0 a_bus_message ≡ length (packet_bytes bus_packet)
unfolding packet_bytes header_bytes
bus-alone = refl

pub arinc-alone : alone_len 0 (arinc_message 1 false false true 0) ≡ length
    (packet_bytes (record bus_packet { content = arinc (arinc_word 2000 ∷ []) }))
unfolding packet_bytes header_bytes
arinc-alone = refl

pub discrete-alone : alone_len 0 (discrete_message 0x81) ≡ length
    (packet_bytes (record bus_packet { content = content_of 8 2000 (discrete_message 0x81) }))
unfolding packet_bytes header_bytes
discrete-alone = refl

pub message-alone : alone_len 0 (data_message true false 1 (0x41 ∷ [])) ≡ length
    (packet_bytes (record bus_packet { content = content_of 0 2000 (data_message true false 1 (0x41 ∷ [])) }))
unfolding packet_bytes header_bytes
message-alone = refl

pub event-alone : alone_len 0 (messages.Event 3 1) ≡ length
    (packet_bytes (record bus_packet { content = content_of 0 2000 (messages.Event 3 1) }))
unfolding packet_bytes header_bytes
event-alone = refl

-- ---- packets of other recorders

-- one with a secondary header
abbrev pub other : List ℕ
other = (0x25 ∷ 0xEB ∷ 0x09 ∷ 0x00 ∷ 0x2C ∷ 0x00 ∷ 0x00 ∷ 0x00 ∷ 0x08 ∷ 0x00 ∷ 0x00 ∷ 0x00 ∷ 0x08 ∷ 0x00 ∷ 0x80 ∷ 0x68 ∷ 0xE8 ∷ 0x03
    ∷ 0x00 ∷ 0x00 ∷ 0x00 ∷ 0x00 ∷ 0xD2 ∷ 0x57 ∷ []) ++ replicate 20 0

pub other-opaque : opaque_at other ≡ true
other-opaque = refl

pub other-is : IsForeignPacket other
other-is = record { framed = refl; whole = refl; checked = λ e. cc; body = λ e. cc }

-- without its last three bytes it is truncated
pub other-cut : HasFault (take 41 other) Truncated
other-cut = refl

-- the recording with a changed header checksum is at fault at its begin
pub changed : IsFaulty (take 22 (file_bytes data_packets) ++ 0 ∷ drop 23 (file_bytes data_packets)) 0 HeaderSum
unfolding packet_bytes header_bytes
changed = ([], take 22 (file_bytes data_packets) ++ 0 ∷ drop 23 (file_bytes data_packets), refl, refl, tt, inr refl, refl)

-- no bytes are truncated
pub empty : IsFaulty [] 0 Truncated
empty = ([], [], refl, refl, tt, inr refl, refl)

-- a time body without month and year is opaque, and one that isn't a whole word is not
pub three-bytes : is_opaque_packet
    (record { channel = 1; packet_len = 28; data_len = 3; version = 8; sequence = 0; flags = 0; data_type = 0x11; counter = 0 })
    (0 ∷ 0 ∷ 0 ∷ []) ≡ false
three-bytes = refl

pub day-of-year : is_opaque_packet
    (record { channel = 1; packet_len = 36; data_len = 12; version = 8; sequence = 0; flags = 0; data_type = 0x11; counter = 0 })
    (replicate 12 0) ≡ true
day-of-year = refl

-- segments of messages, events with data headers, and an index with the size of the file, are opaque
pub segments : is_opaque_packet
    (record { channel = 1; packet_len = 28; data_len = 4; version = 8; sequence = 0; flags = 0; data_type = 0x30; counter = 0 })
    (1 ∷ 0 ∷ 1 ∷ 0 ∷ []) ≡ true
segments = refl

pub with-data-headers : is_opaque_packet
    (record { channel = 1; packet_len = 28; data_len = 4; version = 8; sequence = 0; flags = 0; data_type = 0x02; counter = 0 })
    (1 ∷ 0 ∷ 0 ∷ 0x80 ∷ []) ≡ true
with-data-headers = refl

pub with-file-size : is_opaque_packet
    (record { channel = 0; packet_len = 28; data_len = 4; version = 8; sequence = 0; flags = 0; data_type = 0x03; counter = 0 })
    (1 ∷ 0 ∷ 0 ∷ 0xC0 ∷ []) ≡ true
with-file-size = refl

-- a bus packet of this recorder is one of any recorder
pub bus-read : opaque_at (packet_bytes bus_packet) ≡ false
unfolding packet_bytes header_bytes
bus-read = refl

-- ---- a loss report

-- one message lost on channel 5
abbrev pub a_report_packet : Packet
a_report_packet = record {
  channel = 0;
  sequence = 1;
  gap = Whole;
  check = 0;
  counter = 1000;
  content = report (record { channel = 5; reserved = 0; lost = 1 });
}

pub report-bytes : packet_bytes a_report_packet ≡
    0x25 ∷ 0xEB ∷ 0x00 ∷ 0x00 ∷ 0x2C ∷ 0x00 ∷ 0x00 ∷ 0x00 ∷ 0x14 ∷ 0x00 ∷ 0x00 ∷ 0x00 ∷ 0x08 ∷ 0x01 ∷ 0x00 ∷ 0x00 ∷ 0xE8 ∷ 0x03
    ∷ 0x00 ∷ 0x00 ∷ 0x00 ∷ 0x00 ∷ 0x55 ∷ 0xF0
    ∷ 0x00 ∷ 0x00 ∷ 0x00 ∷ 0x00 ∷ 0x4C ∷ 0x4F ∷ 0x53 ∷ 0x53 ∷ 0x05 ∷ 0x00 ∷ 0x00 ∷ 0x00 ∷ 0x01 ∷ 0x00 ∷ 0x00 ∷ 0x00 ∷ 0x00 ∷ 0x00
    ∷ 0x00 ∷ 0x00 ∷ []
unfolding packet_bytes header_bytes
report-bytes = refl

-- it is read, and another packet of its type isn't
pub report-read : opaque_at (packet_bytes a_report_packet) ≡ false
unfolding packet_bytes header_bytes
report-read = refl

pub type-0 : is_opaque_packet
    (record { channel = 9; packet_len = 28; data_len = 4; version = 8; sequence = 0; flags = 0; data_type = 0x00; counter = 1000 })
    (0 ∷ 0 ∷ 0 ∷ 0 ∷ []) ≡ true
type-0 = refl

-- an entry after a loss of three messages: the report costs 68
pub lost-cost : map entry_cost (record { channel = 5; count = 1004; message = uart_message false 0 (0x44 ∷ []); gap = Lost 3 }
    ∷ entry 5 1004 (0x44 ∷ []) ∷ []) ≡ 185 ∷ 117 ∷ []
lost-cost = refl
