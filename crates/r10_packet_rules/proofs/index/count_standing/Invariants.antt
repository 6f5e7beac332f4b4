use Rattle.std.proofs.Common.{length}
use Rattle.r10_packet_rules.proofs.IndexEntries.{Stood}
use Rattle.r10_packet_rules.proofs.index.count_standing.Given as goal

abbrev pub invariant-loop-after : goal.invariant-loop-after
invariant-loop-after g l = Stood g.E.BodyEntry.form l.bytes l.rest l.count

abbrev pub decreases-loop-after : goal.decreases-loop-after
decreases-loop-after g l = length l.rest
