use Rattle.std.proofs.Common.{arith}
use Rattle.r10_file_rules.proofs.OnIndex.{part_is}
use Rattle.r10_file_rules.proofs.index.IndexTracks.next_named.Goals as goal

pub returns-clause-named : goal.returns-clause-named
returns-clause-named c = part_is c.args.self.now.nodes c.saturating_mul.result c.min-start.result c.min.result c.args.self.now.book.entries c.entries-entries.result.now c.entries-entries.ensures c.saturating_mul.ensures c.min-start.ensures c.min.ensures (omega arith)
