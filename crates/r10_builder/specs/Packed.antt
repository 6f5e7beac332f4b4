-- Packets and builders that are those of one file, and how they go on.
use Rattle.std.specs.Prelude.{◌≡◌, ℕ, ◌<◌, List, ◌++◌, length, Option, None, Some}
use Rattle.std.specs.List.{AllByRecursion}
use Rattle.r10_packet.specs.Types.{type_time}
use Rattle.r10_body.specs.Content.{type_of}
use Rattle.r10_body.specs.Files.{on_channel}
use Rattle.r10_body.specs.Packets.{Packet, FitsPacket, header_of, packet_body, packet_entries}
use Rattle.r10_body.specs.Rules.{MayFollow, Rise, last_time}
use Rattle.r10_body.specs.declared.gap.Gap.TheVariants.{Lost}
use Rattle.r10_body.specs.declared.entry.Entry.{Entry}
use Rattle.r10_builder.specs.State.{BuilderState}
use Rattle.r10_builder.specs.declared.closed.Closed.{Closed}
use Rattle.r10_builder.specs.Grows.{Grows, HasNoneOf, taken_in}
use Rattle.r10_builder.specs.Next.{IsGrowing, extended_by, report_packet, reporting}
use Rattle.r10_body.specs.Sequence.{numbered}
use Rattle.r10_builder.specs.Settings.{KeepsSettings, specs_of}

-- the packets of a file that grows keep to the settings of their channels, and on no channel counts fall, from the packets to
-- the builder
pub record Packed (packets : List Packet) (builders : List BuilderState) : Type 0 where
  pub growing : IsGrowing packets
  pub kept : AllByRecursion (KeepsSettings (specs_of builders)) packets
  pub rise : (channel : ℕ) → Rise 0 (on_channel channel (taken_in packets builders))

-- counts don't fall with these entries after those that were taken in
abbrev pub MayTake : List Packet → List BuilderState → List Entry → Type 0
MayTake packets builders more = (channel : ℕ) → Rise 0 (on_channel channel (taken_in packets builders) ++ on_channel channel more)

-- what was handed out is a packet that may come next, after its report; with both and with the builders that are left these
-- entries were taken in
pub record HandsOnPacket (closed : Closed) (packets : List Packet) (builders : List BuilderState) (more : List Entry)
    (left : List BuilderState) : Type 0 where
  pub packet : Packet
  pub fits : FitsPacket packet
  pub header : closed.header ≡ header_of packet
  pub body : closed.body.items ≡ packet_body packet
  pub number : closed.entries ≡ length (packet_entries packet)
  pub gap : closed.gap ≡ packet.gap
  -- it is on the channel of a builder, and no packet that the recorder makes itself
  pub on : HasNoneOf packet.channel builders → ⊥
  pub data_type : type_time < type_of packet.content
  -- where a number is reported of what was lost before it, a report may come next, and then the packet
  pub reports : (n : ℕ) → packet.gap ≡ Lost n → MayFollow packets
      (numbered packets (report_packet (last_time 0 packets) packet.channel n))
  pub follows : MayFollow (reporting packets packet) (numbered (reporting packets packet) packet)
  pub packed : Packed (extended_by packets packet) left
  pub grows : Grows packets builders more (extended_by packets packet) left

-- whether a packet was handed out or not, these entries were taken in
abbrev pub TakesInSamples : List Packet → List BuilderState → List Entry → Option Closed → List BuilderState → Type 0
TakesInSamples packets builders more None left = Packed packets left × Grows packets builders more packets left
TakesInSamples packets builders more (Some closed) left = HandsOnPacket closed packets builders more left
