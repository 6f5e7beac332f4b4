use Rattle.std.proofs.Common.{◌≡◌, ◌++◌, Some, map}
use Rattle.std.specs.Prelude.{IsSome}
use Rattle.std.specs.List.{All}
use Rattle.r10_session.proofs.beginning.orders_of.Given as goal
use Rattle.r10_shared.specs.Orders.{order_of}

-- the orders so far, and the events that are left, which are orders
abbrev pub invariant-loop-event : goal.invariant-loop-event
invariant-loop-event l = record {
  done : map (λ order. Some order) l.orders.items ++ map (λ event. order_of event) l.event-iterator.rest.items ≡ map (λ event. order_of event) l.fn.events.items;
  left : All (λ event. IsSome (order_of event)) l.event-iterator.rest.items;
}
