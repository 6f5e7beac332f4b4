-- What is kept of times: how many packets there are, the counter of the first of them, and the last time.
use Rattle.std.specs.Prelude.{◌≡◌, List, [], ◌∷◌, length, take, Option, Some, None}
use Rattle.std.specs.List.{AllByRecursion}
use Rattle.r10_body.specs.Content.{time}
use Rattle.r10_body.specs.Packets.{Packet}
use Rattle.r10_file_rules.specs.declared.times.TimeMark.{TimeMark}
use Rattle.r10_file_rules.specs.declared.times.TimeTracks.{TimeTracks}

-- the time that a packet says, or another one
abbrev pub time_of : Option TimeMark → Packet → Option TimeMark
time_of mark p = elim p.content [ time civil ↦ Some (record { count = p.counter; civil = civil }) | _ ↦ mark ]

-- the time that the last time packet says, or another one where there is none
abbrev pub last_mark : Option TimeMark → List Packet → Option TimeMark
last_mark mark [] = mark
last_mark mark (p ∷ packets) = last_mark (time_of mark p) packets

pub record AreTimes (t : TimeTracks) (packets : List Packet) : Type 0 where
  pub packets_are : t.packets ≡ length packets
  pub first : AllByRecursion (λ p. p.counter ≡ t.first) (take 1 packets)
  pub last : t.last ≡ last_mark None packets
