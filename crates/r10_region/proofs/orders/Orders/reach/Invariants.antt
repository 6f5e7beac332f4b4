use Rattle.std.proofs.Common.{◌-◌}
use Rattle.r10_region.proofs.Turns.{Goes}
use Rattle.r10_region.proofs.orders.Orders.reach.Given as goal

abbrev pub invariant-loop : goal.invariant-loop
invariant-loop l = Goes l.fn.line l.line l.fn.self l.self (l.further - l.counter)
