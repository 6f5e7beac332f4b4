use Rattle.r10_session.proofs.Ordering.{first_is, one_more, rest_are}
use Rattle.r10_session.proofs.beginning.orders_of.Goals as goal

pub order-requires : goal.order-requires
order-requires c = first_is _ _ _ c.loop-event.invariant.left c.in-Some.ensures.steps.0

pub loop-event-preserved : goal.loop-event-preserved
loop-event-preserved c = record {
  done = rw c.in_ok-push.ensures.items (one_more c.loop-event.orders.items _ _ _ _ _ c.loop-event.invariant.done c.in-Some.ensures.steps.0 c.order.ensures);
  left = rest_are _ _ _ c.loop-event.invariant.left c.in-Some.ensures.steps.0;
}
