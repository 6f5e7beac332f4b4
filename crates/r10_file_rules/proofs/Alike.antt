-- Kinds that a packet is not of.
use Rattle.std.proofs.Common.{◌≡◌, ℕ, false, refl}
use Rattle.r10_count.specs.declared.civil.Parts.{Parts}
use Rattle.r10_packet_rules.specs.declared.facts.PacketKind.{PacketKind}
use Rattle.r10_packet_rules.specs.declared.facts.PacketKind.TheVariants.{Setup, Time, Event, Data, Node, Root, Report}
use Rattle.r10_file_rules.specs.Kinds.{time_kind, event_kind}

pub no_time_kind : (k : PacketKind) → ((civil : Parts) → k ≡ Time civil → ⊥) → time_kind k ≡ false
no_time_kind Setup none = refl
no_time_kind (Time civil) none = absurd (none civil refl)
no_time_kind (Event number occurrence) none = refl
no_time_kind Data none = refl
no_time_kind Node none = refl
no_time_kind Root none = refl
no_time_kind (Report loss) none = refl

pub no_event_kind : (k : PacketKind) → ((number occurrence : ℕ) → k ≡ Event number occurrence → ⊥) → event_kind k ≡ false
no_event_kind Setup none = refl
no_event_kind (Time civil) none = refl
no_event_kind (Event number occurrence) none = absurd (none number occurrence refl)
no_event_kind Data none = refl
no_event_kind Node none = refl
no_event_kind Root none = refl
no_event_kind (Report loss) none = refl
