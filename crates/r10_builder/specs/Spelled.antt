-- The bytes of samples in a body, and the header of a closed packet.
use Rattle.std.specs.Prelude.{ℕ, ◌+◌, ◌-◌, ◌*◌, ◌/◌, ◌%◌, ◌^◌, ◌<◌, ◌≤◌, Bool, min, List, [], ◌∷◌, ◌++◌, IsTrue}
use Rattle.std.specs.List.{AllByRecursion}
use Rattle.r10_count.specs.Bytes.{flag_at, le_bytes}
use Rattle.r10_count.specs.Count.{IsCount}
use Rattle.r10_packet.specs.Header.{check_bits_of, check_of_bits, flags_of}
use Rattle.r10_packet.specs.declared.header.Header.{Header}
use Rattle.r10_uart.specs.Uart.{uart_at, uart_entry}
use Rattle.r10_b1553.specs.Bus.{bus_at, bus_entry}
use Rattle.r10_a429.specs.Arinc.{arinc_at, arinc_entry}
use Rattle.r10_a429.specs.declared.entry.ArincEntry.{ArincEntry}
use Rattle.r10_discrete.specs.Discrete.{discrete_at, discrete_entry}
use Rattle.r10_discrete.specs.declared.entry.DiscreteEntry.{DiscreteEntry}
use Rattle.r10_message.specs.Message.{message_at, message_entry}
use Rattle.r10_body.specs.Gaps.{is_gap}
use Rattle.r10_body.specs.Messages.{is_in_range, is_short, kind_type}
use Rattle.r10_body.specs.declared.entry.Sample.{Sample}
use Rattle.r10_body.specs.declared.message.Kind.{Kind}
use Rattle.r10_body.specs.declared.message.Kind.TheVariants as kinds
use Rattle.r10_body.specs.declared.message.Message.{Message}
use Rattle.r10_body.specs.declared.message.Message.TheVariants as messages
use Rattle.r10_body.specs.declared.spec.ChannelSpec.{ChannelSpec}
use Rattle.r10_builder.specs.Packing.{tenth}
use Rattle.r10_builder.specs.declared.open_packet.OpenPacket.{OpenPacket}

-- ---- bytes

abbrev pub arinc_of : ℕ → ℕ → Bool → Bool → Bool → ℕ → ArincEntry
arinc_of count bus format parity high word = record {
  count = count;
  message = record { bus = bus; format = format; parity = parity; high = high; word = word };
}

abbrev pub discrete_of : ℕ → ℕ → DiscreteEntry
discrete_of count states = record { count = count; message = record { states = states } }

-- a message at a count, after one at another; times and events are on no channel
abbrev pub message_bytes : ℕ → ℕ → Message → List ℕ
message_bytes before count (messages.Uart m) = uart_entry (uart_at count m)
message_bytes before count (messages.Bus1553 m) = bus_entry (bus_at count m)
message_bytes before count (messages.Arinc m) = arinc_entry (count - before) (arinc_at count m)
message_bytes before count (messages.Discrete m) = discrete_entry (discrete_at count m)
message_bytes before count (messages.Message m) = message_entry (message_at count m)
message_bytes before count m = []

unfoldable pub sample_bytes : ℕ → Sample → List ℕ
sample_bytes before s = message_bytes before s.count s.message

-- a word of an ARINC bus tells its distance from the one before
abbrev pub IsWithinTenth : ℕ → ℕ → Message → Type 0
IsWithinTenth before count (messages.Arinc m) = (before ≤ count) × (count ≤ before + tenth)
IsWithinTenth before count m = Unit {0}

-- the fields of a message are in their ranges, on a channel of so many discretes and after one at a count
pub record Fits (bits before : ℕ) (s : Sample) : Type 0 where
  pub range : IsTrue (is_in_range bits s.message)
  pub short : IsTrue (is_short s.message)
  pub reaches : IsWithinTenth before s.count s.message

-- what the types of the fields say
abbrev pub HasTypes : Message → Type 0
HasTypes (messages.Bus1553 m) = (m.gap < 2 ^ 16) × AllByRecursion (λ w. w < 2 ^ 16) m.words
HasTypes (messages.Arinc m) = (m.bus < 2 ^ 8) × (m.word < 2 ^ 32)
HasTypes m = Unit {0}

pub record Typed (s : Sample) : Type 0 where
  pub count : IsCount s.count
  pub fields : HasTypes s.message

-- each sample after the one before, the first after a count
abbrev pub all_bytes : ℕ → List Sample → List ℕ
all_bytes before [] = []
all_bytes before (s ∷ samples) = sample_bytes before s ++ all_bytes s.count samples

-- the body of an open packet, where the place of the channel specific data word is blank
abbrev pub open_body : List Sample → List ℕ
open_body [] = []
open_body (s ∷ samples) = 0 ∷ 0 ∷ 0 ∷ 0 ∷ all_bytes s.count (s ∷ samples)

-- the channel specific data word of so many samples, on a channel of so many discretes
abbrev pub word_of : Kind → ℕ → ℕ → ℕ
word_of kinds.Uart bits number = 0x80000000
word_of kinds.Bus1553 bits number = number % 2 ^ 24
word_of kinds.Arinc bits number = number % 2 ^ 16
word_of kinds.Discrete bits number = 8 * (bits % 32)
word_of kinds.Message bits number = number % 2 ^ 16

abbrev pub word_bytes : ChannelSpec → ℕ → List ℕ
word_bytes spec number = le_bytes 4 (word_of spec.kind spec.bits number)

-- the header of a packet with a body of this length
abbrev pub closed_header : ChannelSpec → OpenPacket → ℕ → Header
closed_header spec o size = record {
  channel = spec.id;
  packet_len = min ((size + check_bits_of (check_of_bits spec.check) / 8 + 27) / 4 * 4) 4294967295;
  data_len = min size 4294967295;
  version = 8;
  sequence = 0;
  flags = flag_at 4 (is_gap o.gap) + flags_of (check_of_bits spec.check);
  data_type = kind_type spec.kind;
  counter = o.first;
}
