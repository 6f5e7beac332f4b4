-- What a packet of the recorder says to the rules of a file.
use Rattle.std.specs.Prelude.{◌≡◌, ℕ, ◌≤◌, ◌↔◌, IsTrue, List, [], ◌∷◌, length, take, map, Option, Some, None}
use Rattle.std.specs.List.{AllByRecursion, sum_by}
use Rattle.r10_body.specs.Content.{Content, setup, time, event, node, root, report, type_of}
use Rattle.r10_body.specs.Cost.{plain_cost}
use Rattle.r10_body.specs.Gaps.{is_gap}
use Rattle.r10_body.specs.Packets.{Packet, packet_bytes, packet_entries}
use Rattle.r10_body.specs.Rules.{Rise}
use Rattle.r10_body.specs.declared.entry.Entry.{Entry}
use Rattle.r10_body.specs.Sequence.{last_count}
use Rattle.r10_packet_rules.specs.declared.facts.Facts.{Facts}
use Rattle.r10_packet_rules.specs.declared.facts.Spread.{Spread}
use Rattle.r10_packet_rules.specs.declared.facts.PacketKind.{PacketKind}
use Rattle.r10_packet_rules.specs.declared.facts.PacketKind.TheVariants.{Setup, Time, Event, Data, Node, Root, Report}

-- what a content is
abbrev pub kind_of : Content → PacketKind
kind_of (setup text) = Setup
kind_of (time civil) = Time civil
kind_of (event e) = Event e.number e.occurrence
kind_of (node entries) = Node
kind_of (root entries) = Root
kind_of (report loss) = Report loss
kind_of content = Data

-- the counts of entries: the first, the last, the least that none is above, and whether they rise
pub record Spans (s : Spread) (entries : List Entry) : Type 0 where
  pub first : map (λ e. e.count) (take 1 entries) ≡ s.first ∷ []
  pub last : s.last ≡ last_count s.first entries
  pub greatest : (bound : ℕ) → (s.greatest ≤ bound) ↔ AllByRecursion (λ e. e.count ≤ bound) entries
  pub rise : IsTrue s.rise ↔ Rise s.first entries

-- there are no entries, or these are their counts
abbrev pub TellsCounts : Option Spread → List Entry → Type 0
TellsCounts None entries = entries ≡ []
TellsCounts (Some s) entries = Spans s entries

-- each is what the packet has; of a loss before it they tell the flag, and the cost without its report
pub record AreFactsOf (f : Facts) (p : Packet) : Type 0 where
  pub channel : f.channel ≡ p.channel
  pub sequence : f.sequence ≡ p.sequence
  pub flagged : f.flagged ≡ is_gap p.gap
  pub counter : f.counter ≡ p.counter
  pub data_type : f.data_type ≡ type_of p.content
  pub kind : f.kind ≡ kind_of p.content
  pub length_is : f.length ≡ length (packet_bytes p)
  pub entries : f.entries ≡ length (packet_entries p)
  pub cost : f.cost ≡ sum_by plain_cost (packet_entries p)
  pub counts : TellsCounts f.counts (packet_entries p)
