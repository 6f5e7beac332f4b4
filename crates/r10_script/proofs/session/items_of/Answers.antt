use Rattle.toml.specs.View.{table_view}
use Rattle.r10_script.specs.Session.{IsItem}
use Rattle.r10_script.proofs.Asks.{asks_more}
use Rattle.r10_script.proofs.session.items_of.Goals as goal

pub loop-value-preserved : goal.loop-value-preserved
loop-value-preserved c =
    rw c.in_ok-push.ensures.items (asks_more (IsItem c.args.kind) c.in_ok-value-items.value-items.now c.loop-value.value-index c.value-item.result c.loop-value.items.items c.in_ok-item_of.field-0 (table_view c.in_ok-one.one.table.now)
    c.loop-value-test.true c.value-item.is c.in_ok-one.ensures c.in_ok-item_of.ensures c.loop-value.invariant)
