use Rattle.r10_shared.proofs.Looks.{HasLooked}
use Rattle.r10_shared.proofs.watching.watch.Given as goal

abbrev pub invariant-loop : goal.invariant-loop
invariant-loop g l = HasLooked g.W.Watching.asked l.fn.at l.at l.seen × g.W.Watching.is_of l.at l.reading × g.W.Watching.reads_on l.fn.reading l.reading
