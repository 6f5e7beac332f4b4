-- Two packets of a channel on which a message was lost: the packet after the loss is flagged, not the one before it, and a
-- report stands between them.
use Rattle.std.specs.Prelude.{◌≡◌, ℕ, false, List, [], ◌∷◌, ◌++◌, take, drop, refl}
use Rattle.r10_packet.specs.Header.{header_bytes}
use Rattle.r10_body.specs.Content.{uart, report}
use Rattle.r10_body.specs.Packets.{Packet, packet_bytes}
use Rattle.r10_body.specs.Vectors.{channel_of, a_setup_packet, a_time_packet}
use Rattle.r10_body.specs.Messages.{uart_message}
use Rattle.r10_body.specs.declared.entry.Entry.{Entry}
use Rattle.r10_body.specs.declared.gap.Gap.{Gap}
use Rattle.r10_body.specs.declared.gap.Gap.TheVariants.{Whole, Lost}
use Rattle.r10_body.specs.declared.message.Kind.TheVariants as kinds
use Rattle.r10_builder.specs.State.{BuilderState}
use Rattle.r10_uart.specs.declared.entry.UartEntry.{UartEntry}
use Rattle.r10_builder.specs.Grows.{taken_in}
use Rattle.r10_builder.specs.Next.{extended_by}
use Rattle.r10_body.specs.Sequence.{numbered}

abbrev letter : ℕ → ℕ → UartEntry
letter count byte = record { count = count; message = record { parity = false; sub = 0; bytes = byte ∷ [] } }

abbrev letters : Gap → ℕ → List UartEntry → Packet
letters gap counter es = record { channel = 5; sequence = 0; gap = gap; check = 0; counter = counter; content = uart es }

abbrev begun : List Packet
begun = a_setup_packet ∷ a_time_packet ∷ []

abbrev a_and_b : Packet
a_and_b = numbered begun (letters Whole 1000 (letter 1000 0x41 ∷ letter 1001 0x42 ∷ []))

abbrev d_alone : Packet
d_alone = numbered (begun ++ a_and_b ∷ []) (letters (Lost 1) 1003 (letter 1003 0x44 ∷ []))

abbrev the_report : Packet
the_report = record {
  channel = 0;
  sequence = 1;
  gap = Whole;
  check = 0;
  counter = 1000;
  content = report (record { channel = 5; reserved = 0; lost = 1 });
}

pub report-between : extended_by (begun ++ a_and_b ∷ []) (letters (Lost 1) 1003 (letter 1003 0x44 ∷ [])) ≡ begun ++ a_and_b
    ∷ the_report ∷ d_alone ∷ []
report-between = refl

pub no-report : extended_by begun (letters Whole 1000 (letter 1000 0x41 ∷ letter 1001 0x42 ∷ [])) ≡ begun ++ a_and_b ∷ []
no-report = refl

-- sequence number and flags
abbrev number_and_flags : Packet → List ℕ
number_and_flags p = take 2 (drop 13 (packet_bytes p))

pub before-the-loss : number_and_flags a_and_b ≡ 0x00 ∷ 0x00 ∷ []
unfolding packet_bytes header_bytes
before-the-loss = refl

pub behind-the-loss : number_and_flags d_alone ≡ 0x01 ∷ 0x10 ∷ []
unfolding packet_bytes header_bytes
behind-the-loss = refl

-- while D is open in its builder, and when it is written
abbrev said : ℕ → ℕ → Gap → Entry
said count byte gap = record { channel = 5; count = count; message = uart_message false 0 (byte ∷ []); gap = gap }

abbrev all_three : List Entry
all_three = said 1001 0x42 Whole ∷ said 1003 0x44 (Lost 1) ∷ []

abbrev open_d : BuilderState
open_d = record {
  spec = record (channel_of kinds.Uart 0) { id = 5 };
  samples = record { count = 1003; message = uart_message false 0 (0x44 ∷ []); gap = Lost 1 } ∷ [];
  room = 0;
  next_room = 0;
}

abbrev none_open : BuilderState
none_open = record open_d { samples = [] }

pub open-in-its-builder : drop 2 (taken_in (begun ++ a_and_b ∷ []) (open_d ∷ [])) ≡ all_three
open-in-its-builder = refl

pub written-in-a-packet : drop 2 (taken_in (begun ++ a_and_b ∷ the_report ∷ d_alone ∷ []) (none_open ∷ [])) ≡ all_three
written-in-a-packet = refl
