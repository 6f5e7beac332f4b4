use Rattle.toml.specs.View.{table_view}
use Rattle.r10_script.specs.Session.{IsOrder}
use Rattle.r10_script.proofs.Asks.{asks_more}
use Rattle.r10_script.proofs.session.orders_of.Goals as goal

pub loop-value-preserved : goal.loop-value-preserved
loop-value-preserved c =
    rw c.in_ok-push.ensures.items (asks_more (IsOrder c.args.channels.now) c.in_ok-value-items.value-items.now c.loop-value.value-index c.value-item.result c.loop-value.orders.items c.in_ok-order_of.field-0 (table_view c.in_ok-fields.fields.table.now)
    c.loop-value-test.true c.value-item.is c.in_ok-fields.ensures c.in_ok-order_of.ensures c.loop-value.invariant)
