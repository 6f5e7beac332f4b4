use Rattle.r10_shared.proofs.Stepping.{HasGone}
use Rattle.r10_shared.proofs.writing.write.Given as goal

abbrev pub invariant-loop : goal.invariant-loop
invariant-loop g l = HasGone g.W.Writing.asked l.fn.at l.at
