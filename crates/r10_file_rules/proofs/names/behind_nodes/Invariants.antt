use Rattle.std.proofs.Common.{◌≡◌, ◌+◌, ◌*◌, ◌<◌, ◌^◌, ◌++◌}
use Rattle.std.specs.List.{flat_map}
use Rattle.r10_indexbody.specs.Index.{root_entry}
use Rattle.r10_index.specs.Written.{names}
use Rattle.r10_file_rules.proofs.names.behind_nodes.Given as goal

-- so many nodes are after
abbrev pub invariant-loop-node : goal.invariant-loop-node
invariant-loop-node l = l.end + 2028 * l.nodes < 2 ^ 64 → l.bytes ≡ flat_map root_entry (names l.counter l.end l.node) ++ l.left
