-- When the open packet of a channel is closed, and what is handed out.
use Rattle.std.specs.Prelude.{◌≡◌, ℕ, ◌+◌, ◌*◌, ◌/◌, ◌<◌, ◌≤◌, Bool, true, not, List, [], ◌∷◌, ◌++◌, length, map, Option, None}
use Rattle.std.specs.Prelude.{nat_lt, nat_le}
use Rattle.std.specs.List.{AllByRecursion, sum_by}
use Rattle.r10_count.specs.Checks.{first_broken}
use Rattle.r10_packet.specs.Header.{check_bits_of, check_of_bits, checksum_bits}
use Rattle.r10_packet.specs.Limits.{longest_packet}
use Rattle.r10_body.specs.Bodies.{discretes_of}
use Rattle.r10_body.specs.Content.{type_of}
use Rattle.r10_body.specs.Gaps.{is_gap}
use Rattle.r10_body.specs.Messages.{kind_type, spelling_len}
use Rattle.r10_body.specs.Packets.{Packet, FitsPacket, header_of, packet_body, packet_entries}
use Rattle.r10_body.specs.Rules.{Rise}
use Rattle.r10_body.specs.declared.entry.Entry.{Entry}
use Rattle.r10_body.specs.declared.entry.Sample.{Sample}
use Rattle.r10_body.specs.declared.message.Kind.{Kind}
use Rattle.r10_body.specs.declared.message.Kind.TheVariants as kinds
use Rattle.r10_body.specs.declared.spec.ChannelSpec.{ChannelSpec}
use Rattle.r10_builder.specs.declared.closed.Reason.{Reason}
use Rattle.r10_builder.specs.declared.closed.Reason.TheVariants.{Gap, BusGap, Age, Number, Size}
use Rattle.r10_builder.specs.declared.closed.Closed.{Closed}

-- ---- when a packet is closed

-- a tenth of a second in units of 100 ns
abbrev pub tenth : ℕ
tenth = 1000000

-- the counts of the first and of the last sample; of no samples the last is taken to be one before
abbrev pub first_count : List Sample → ℕ
first_count [] = 0
first_count (s ∷ samples) = s.count

abbrev pub last_sample_count : ℕ → List Sample → ℕ
last_sample_count before [] = before
last_sample_count before (s ∷ samples) = last_sample_count s.count samples

-- the bytes of a packet of these samples: header, word, messages and checksum, in whole words
abbrev pub packet_len : ℕ → List Sample → ℕ
packet_len check samples = (24 + 4 + sum_by (λ s. spelling_len s.message) samples + check / 8 + 3) / 4 * 4

-- a word of an ARINC bus tells its distance from the one before, which is at most a tenth of a second
abbrev pub is_near : Kind → ℕ → ℕ → Bool
is_near kinds.Arinc before count = nat_le count (before + tenth)
is_near kind before count = true

-- what must hold for a sample to go into the open packet, in order, and the reason to close the packet where it doesn't; no
-- packet is open where there are no samples
abbrev pub reason : ChannelSpec → List Sample → Sample → Option Reason
reason spec [] s = None
reason spec (first ∷ rest) s =
    first_broken ((not (is_gap s.gap), Gap)
    ∷ (is_near spec.kind (last_sample_count first.count rest) s.count, BusGap)
    ∷ (nat_le s.count (first.count + tenth), Age)
    ∷ (nat_lt (length (first ∷ rest)) spec.number, Number)
    ∷ (nat_le (packet_len spec.check ((first ∷ rest) ++ s ∷ [])) spec.bytes, Size)
    ∷ [])

-- the first sample is at most a tenth of a second old
abbrev pub IsYoung : ℕ → List Sample → Type 0
IsYoung now [] = Unit {0}
IsYoung now (first ∷ rest) = now ≤ first.count + tenth

-- ---- what is handed out

-- settings within the limits of a recorder
pub record IsLimited (spec : ChannelSpec) : Type 0 where
  pub check : check_bits_of (check_of_bits spec.check) ≡ spec.check
  pub bytes : spec.bytes ≤ longest_packet
  pub some : 0 < spec.number
  pub number : spec.number < 65536

-- a sample as an entry of its channel
abbrev pub entry_on : ℕ → Sample → Entry
entry_on channel s = record { channel = channel; count = s.count; message = s.message; gap = s.gap }

-- header and body of the first packet of a channel that says these samples, in order: its entries have their counts and
-- messages, and of them the first alone may have a gap, which is the packet's
pub record IsClosedPacket (spec : ChannelSpec) (samples : List Sample) (closed : Closed) : Type 0 where
  pub packet : Packet
  pub header : closed.header ≡ header_of packet
  pub body : closed.body.items ≡ packet_body packet
  pub number : closed.entries ≡ length samples
  pub gap : closed.gap ≡ packet.gap
  pub fits : FitsPacket packet
  pub says : packet_entries packet ≡ map (entry_on spec.id) samples
  pub channel : packet.channel ≡ spec.id
  pub sequence : packet.sequence ≡ 0
  pub check : checksum_bits packet.check ≡ spec.check
  pub type_is : type_of packet.content ≡ kind_type spec.kind
  pub bits_are : spec.kind ≡ kinds.Discrete → discretes_of packet.content ≡ spec.bits
  -- the counter is the first entry's count, counts don't fall, and none is more than a tenth of a second later
  pub counter : packet.counter ≡ first_count samples
  pub rise : Rise packet.counter (packet_entries packet)
  pub soon : AllByRecursion (λ e. e.count ≤ packet.counter + tenth) (packet_entries packet)
  -- it keeps to the channel's limits, and is as long as the samples make it
  pub length_is : closed.header.packet_len ≡ packet_len spec.check samples
  pub short : packet_len spec.check samples ≤ spec.bytes
  pub some : 0 < length samples
  pub few : length samples ≤ spec.number
