-- Which kinds of packet the rules tell apart.
use Rattle.std.specs.Prelude.{Bool, true, false}
use Rattle.r10_packet_rules.specs.declared.facts.PacketKind.{PacketKind}
use Rattle.r10_packet_rules.specs.declared.facts.PacketKind.TheVariants.{Setup, Time, Event, Data, Node, Root, Report}

abbrev pub setup_kind : PacketKind → Bool
setup_kind Setup = true
setup_kind kind = false

abbrev pub time_kind : PacketKind → Bool
time_kind (Time civil) = true
time_kind kind = false

abbrev pub event_kind : PacketKind → Bool
event_kind (Event number occurrence) = true
event_kind kind = false

-- messages of a channel
abbrev pub data_kind : PacketKind → Bool
data_kind Data = true
data_kind kind = false

abbrev pub index_kind : PacketKind → Bool
index_kind Node = true
index_kind Root = true
index_kind kind = false

abbrev pub report_kind : PacketKind → Bool
report_kind (Report loss) = true
report_kind kind = false
