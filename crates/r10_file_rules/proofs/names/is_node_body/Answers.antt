use Rattle.std.proofs.Common.{◌+◌, length}
use Rattle.std.specs.List.{flat_map}
use Rattle.r10_count.specs.Bytes.{le_bytes}
use Rattle.r10_indexbody.specs.Index.{node_entry}
use Rattle.r10_file_rules.proofs.Fronts.{unframed}
use Rattle.r10_file_rules.proofs.names.is_node_body.Goals as goal

pub returns-in-None : goal.returns-in-None
returns-in-None c = unframed c.args.body.now c.to_le_bytes.result (le_bytes 4 (2147483648 + length c.args.entries.now)) (flat_map node_entry c.args.entries.now) c.to_le_bytes.ensures c.in-None.ensures.none
