-- What may come next in a file that has begun and has no index yet.
use Rattle.std.specs.Prelude.{◌≡◌, ℕ, ◌<◌, ◌≤◌, ◌%◌, List, [], ◌∷◌, ◌++◌, length, count_by}
use Rattle.std.specs.List.{AllByRecursion}
use Rattle.r10_count.specs.declared.civil.Parts.{Parts}
use Rattle.r10_body.specs.Content.{setup, time, event, report, type_of}
use Rattle.r10_body.specs.Files.{on_channel}
use Rattle.r10_body.specs.Packets.{Packet, file_entries}
use Rattle.r10_body.specs.Rules.{EachFollows, EndsReports, is_event_of, is_index, last_time}
use Rattle.r10_body.specs.Sequence.{last_count, numbered}
use Rattle.r10_body.specs.declared.gap.Gap.TheVariants.{Whole, Lost}

-- a file that has begun, with setup and time, and that may grow: there is no index packet yet, and no report stands last
pub record IsGrowing (packets : List Packet) : Type 0 where
  pub each : EachFollows [] packets
  pub start : 2 ≤ length packets
  pub unindexed : count_by is_index packets ≡ 0
  pub quiet : EndsReports packets

-- the channel's packets are of one data type
abbrev pub HasType : ℕ → ℕ → List Packet → Type 0
HasType channel type packets = AllByRecursion (λ p. p.channel ≡ channel → type_of p.content ≡ type) packets

-- a channel that may go on at a count with packets of a type: setup and index are on another, its packets are of this type,
-- and no count on it is later
pub record ChannelGoesOn (packets : List Packet) (channel type count : ℕ) : Type 0 where
  pub above : 0 < channel
  pub type_is : HasType channel type packets
  pub later : last_count 0 (on_channel channel (file_entries packets)) ≤ count

-- ---- the packets that a recorder makes itself

abbrev pub setup_packet : ℕ → List ℕ → Packet
setup_packet counter text = record { channel = 0; sequence = 0; gap = Whole; check = 0; counter = counter; content = setup text }

abbrev pub time_packet : ℕ → ℕ → Parts → Packet
time_packet channel counter civil = record {
  channel = channel;
  sequence = 0;
  gap = Whole;
  check = 0;
  counter = counter;
  content = time civil;
}

-- the event of a number that comes next after packets
abbrev pub event_packet : ℕ → ℕ → ℕ → List Packet → Packet
event_packet channel counter number packets = record {
  channel = channel;
  sequence = 0;
  gap = Whole;
  check = 0;
  counter = counter;
  content =
      event
      (record { count = counter; number = number; occurrence = count_by (is_event_of number) (file_entries packets) % 65536 });
}

-- the report of a loss on a channel
abbrev pub report_packet : ℕ → ℕ → ℕ → Packet
report_packet counter channel lost = record {
  channel = 0;
  sequence = 0;
  gap = Whole;
  check = 0;
  counter = counter;
  content = report (record { channel = channel; reserved = 0; lost = lost });
}

-- ---- a packet that is handed out

-- packets, and after them the report that tells how many messages were lost before a packet, where a number is reported
abbrev pub reporting : List Packet → Packet → List Packet
reporting packets p = elim p.gap [
  | Lost n ↦ packets ++ numbered packets (report_packet (last_time 0 packets) p.channel n)
      ∷ []
  | _ ↦ packets
]

-- packets with one more, and with its report
abbrev pub extended_by : List Packet → Packet → List Packet
extended_by packets p = reporting packets p ++ numbered (reporting packets p) p ∷ []
