use Rattle.std.proofs.Common.{length}
use Rattle.r10_count.proofs.Spelling.{ReadSoFar}
use Rattle.r10_count.proofs.read.read_entries.Given as goal

abbrev pub invariant-loop-rest : goal.invariant-loop-rest
invariant-loop-rest g l = ReadSoFar g.E.BodyEntry.form l.before l.bytes l.entries.items l.count l.rest

abbrev pub decreases-loop-rest : goal.decreases-loop-rest
decreases-loop-rest g l = length l.rest
