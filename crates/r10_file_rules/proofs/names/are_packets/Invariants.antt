use Rattle.std.proofs.Common.{◌≡◌, drop}
use Rattle.std.specs.Prelude.{◌↔◌}
use Rattle.std.specs.List.{flat_map}
use Rattle.r10_indexbody.specs.Index.{node_entry}
use Rattle.r10_file_rules.proofs.names.are_packets.Given as goal

-- the bytes are all exactly where what is left is the rest
abbrev pub invariant-loop-entry : goal.invariant-loop-entry
invariant-loop-entry l = (l.bytes ≡ flat_map node_entry l.entries) ↔ (l.left ≡ flat_map node_entry (drop l.entry-index l.entries))
