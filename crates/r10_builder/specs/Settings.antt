-- The channels of builders, and what a packet on one of them keeps to.
use Rattle.std.specs.Prelude.{◌≡◌, ℕ, ◌<◌, ◌≤◌, ◌+◌, Bool, false, not, nat_le, ◌==◌, List, [], ◌∷◌, length, map, find, Option}
use Rattle.std.specs.Prelude.{None, Some, IsSomeAnd}
use Rattle.std.specs.List.{AllByRecursion}
use Rattle.r10_packet.specs.Header.{checksum_bits}
use Rattle.r10_body.specs.Bodies.{discretes_of}
use Rattle.r10_body.specs.Content.{type_of}
use Rattle.r10_body.specs.Gaps.{IsSoundGap}
use Rattle.r10_body.specs.Messages.{channel_refusal, kind_type}
use Rattle.r10_body.specs.Packets.{Packet, packet_bytes, packet_entries}
use Rattle.r10_body.specs.declared.entry.Sample.{Sample}
use Rattle.r10_body.specs.declared.message.Kind.TheVariants as kinds
use Rattle.r10_body.specs.declared.spec.ChannelSpec.{ChannelSpec}
use Rattle.r10_builder.specs.Packing.{IsLimited, last_sample_count, reason, tenth}
use Rattle.r10_builder.specs.State.{HasRoomForTwo, IsReadyWith, BuilderState}
use Rattle.r10_builder.specs.declared.closed.Closed.{Closed}

abbrev pub specs_of : List BuilderState → List ChannelSpec
specs_of builders = map (λ (b : BuilderState). b.spec) builders

-- channels by rising ID, each above this one and within a recorder's limits
abbrev pub AreChannelSettings : ℕ → List ChannelSpec → Type 0
AreChannelSettings least [] = Unit {0}
AreChannelSettings least (spec ∷ specs) = (least < spec.id) × IsLimited spec × AreChannelSettings spec.id specs

abbrev pub is_of : ℕ → BuilderState → Bool
is_of channel b = b.spec.id == channel

-- its first sample is more than a tenth of a second before now
abbrev pub is_old : ℕ → BuilderState → Bool
is_old now b = elim b.samples [ [] ↦ false | s ∷ samples ↦ not (nat_le now (s.count + tenth)) ]

-- the channel has a builder, which takes the sample after those that it holds
abbrev pub BuilderTakes : ℕ → Sample → List BuilderState → Type 0
BuilderTakes channel s builders = IsSomeAnd (find (is_of channel) builders)
    (λ b. (channel_refusal b.spec s.message ≡ None) × (last_sample_count 0 b.samples ≤ s.count) × IsSoundGap s.gap)

-- the sample goes into the packet that is open on its channel
abbrev pub Joins : ℕ → Sample → List BuilderState → Type 0
Joins channel s builders = IsSomeAnd (find (is_of channel) builders)
    (λ b. (0 < length b.samples) × (reason b.spec b.samples s ≡ None))

-- how many packets were handed out
abbrev pub handed_count : Option Closed → ℕ
handed_count None = 0
handed_count (Some closed) = 1

-- all are ready but the one of a channel that handed a packet out, which is once the packet's room is given back
abbrev pub AreReadyWith : ℕ → Closed → List BuilderState → Type 0
AreReadyWith channel closed builders = AllByRecursion (λ (b : BuilderState). (b.spec.id ≡ channel → IsReadyWith closed b)
    × ((b.spec.id ≡ channel → ⊥) → HasRoomForTwo b)) builders

-- a packet of a channel with these settings
pub record KeepsSpec (spec : ChannelSpec) (p : Packet) : Type 0 where
  pub type_is : type_of p.content ≡ kind_type spec.kind
  pub bits_are : spec.kind ≡ kinds.Discrete → discretes_of p.content ≡ spec.bits
  pub check : checksum_bits p.check ≡ spec.check
  pub bytes : length (packet_bytes p) ≤ spec.bytes
  pub number : length (packet_entries p) ≤ spec.number

-- it keeps to the settings of its channel, where it has some
abbrev pub KeepsSettings : List ChannelSpec → Packet → Type 0
KeepsSettings specs p = AllByRecursion (λ (spec : ChannelSpec). p.channel ≡ spec.id → KeepsSpec spec p) specs
