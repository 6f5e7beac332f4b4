-- What the buffers of a channel hold.
use Rattle.std.specs.Prelude.{◌≡◌, ℕ, ◌+◌, ◌≤◌, ◌<◌, true, List, [], ◌∷◌, length, drop, MatchOption, Option, None}
use Rattle.std.specs.List.{AllByRecursion}
use Rattle.r10_body.specs.Gaps.{IsSoundGap}
use Rattle.r10_body.specs.Messages.{channel_refusal}
use Rattle.r10_body.specs.declared.entry.Sample.{Sample}
use Rattle.r10_body.specs.declared.gap.Gap.{Gap}
use Rattle.r10_body.specs.declared.gap.Gap.TheVariants.{Whole}
use Rattle.r10_body.specs.declared.message.Kind.{Kind}
use Rattle.r10_body.specs.declared.spec.ChannelSpec.{ChannelSpec}
use Rattle.r10_builder.specs.Packing.{first_count, is_near, last_sample_count, packet_len, tenth}
use Rattle.r10_builder.specs.Spelled.{Typed, open_body}
use Rattle.r10_builder.specs.declared.open_packet.OpenPacket.{OpenPacket}

-- counts don't fall from one on
abbrev pub RiseFrom : ℕ → List Sample → Type 0
RiseFrom count [] = Unit {0}
RiseFrom count (s ∷ samples) = (count ≤ s.count) × RiseFrom s.count samples

-- each is near the one before, the first near a count
abbrev pub NearFrom : Kind → ℕ → List Sample → Type 0
NearFrom kind count [] = Unit {0}
NearFrom kind count (s ∷ samples) = (is_near kind count s.count ≡ true) × NearFrom kind s.count samples

-- what was lost before the first
abbrev pub first_gap : List Sample → Gap
first_gap [] = Whole
first_gap (s ∷ samples) = s.gap

-- samples of a channel that share a packet
pub record HasShare (spec : ChannelSpec) (samples : List Sample) : Type 0 where
  pub taken : AllByRecursion (λ s. channel_refusal spec s.message ≡ None) samples
  pub typed : AllByRecursion Typed samples
  pub rise : RiseFrom (first_count samples) samples
  pub near : NearFrom spec.kind (first_count samples) samples
  pub soon : AllByRecursion (λ s. s.count ≤ first_count samples + tenth) samples
  pub plain : AllByRecursion (λ s. s.gap ≡ Whole) (drop 1 samples)
  pub sound : IsSoundGap (first_gap samples)
  pub few : 0 < spec.number → length samples ≤ spec.number
  pub short : 0 < length samples → packet_len spec.check samples ≤ spec.bytes

-- what is known of an open packet
pub record IsOpenPacket (o : OpenPacket) (samples : List Sample) : Type 0 where
  pub some : 0 < length samples
  pub number : o.number ≡ length samples
  pub first : o.first ≡ first_count samples
  pub last : o.last ≡ last_sample_count 0 samples
  pub gap : o.gap ≡ first_gap samples

-- packet, body and spare buffer of a channel, of which these are the samples
pub record HoldsSamples (spec : ChannelSpec) (packet : Option OpenPacket) (body spare : List ℕ)
    (samples : List Sample) : Type 0 where
  pub open_is : MatchOption packet (samples ≡ []) (λ o. IsOpenPacket o samples)
  pub body_is : body ≡ open_body samples
  pub spare_is : spare ≡ []
  pub share : HasShare spec samples
