use Rattle.std.proofs.Common.{map, take}
use Rattle.toml.specs.View.{view}
use Rattle.r10_script.specs.Script.{EachAsks}
use Rattle.r10_script.specs.Session.{IsOrder}
use Rattle.r10_script.proofs.session.orders_of.Given as goal

-- the orders so far are those of the tables so far
abbrev pub invariant-loop-value : goal.invariant-loop-value
invariant-loop-value l = EachAsks (IsOrder l.fn.channels) (map view (take l.value-index l.value-items)) l.orders.items
