use Rattle.std.proofs.Common.{◌≡◌, length, ◌/◌}
use Rattle.r10_region.specs.Joining.{JoinsMore}
use Rattle.r10_region.proofs.orders.Orders.join.Given as goal

abbrev pub invariant-loop : goal.invariant-loop
invariant-loop l = JoinsMore l.first l.most l.fn.self l.self l.fn.bytes l.bytes l.count × (l.most ≡ length l.fn.bytes / 512) × (length l.bytes ≡ length l.fn.bytes)
