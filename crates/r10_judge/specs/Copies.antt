-- Files of many packets: a setup, a time, and packets of one message each.
use Rattle.std.specs.Prelude.{ℕ, zero, suc, List, [], ◌∷◌, ◌++◌, take}
use Rattle.r10_body.specs.Content.{uart, node}
use Rattle.r10_body.specs.Packets.{Packet}
use Rattle.r10_body.specs.Rules.{node_entries}
use Rattle.r10_body.specs.Vectors.{a_setup_packet, a_time_packet, uart_packet, a_node_packet, two_messages}

-- the packet of one message after so many others
abbrev pub copy : ℕ → Packet
copy n = record uart_packet { sequence = n; content = uart (take 1 two_messages) }

-- with so many of them
unfoldable pub copies : ℕ → List Packet
copies zero = a_setup_packet ∷ a_time_packet ∷ []
copies (suc n) = copies n ++ copy n ∷ []

-- a node that names the first 99 packets
abbrev pub node_of_99 : List Packet → Packet
node_of_99 packets = record a_node_packet { content = node (take 99 (node_entries 0 packets)) }
