use Rattle.std.proofs.Common.{drop}
use Rattle.r10_shared.proofs.Given.{HasGiven}
use Rattle.r10_shared.proofs.giving.give.Given as goal

abbrev pub invariant-loop-order : goal.invariant-loop-order
invariant-loop-order g l = HasGiven g.C.Control.asked l.fn.orders (drop l.order-index l.orders) l.fn.at l.at
