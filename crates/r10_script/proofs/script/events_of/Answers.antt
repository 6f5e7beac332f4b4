use Rattle.toml.specs.View.{table_view}
use Rattle.r10_script.specs.Steps.{IsStepTable}
use Rattle.r10_script.proofs.Asks.{asks_more}
use Rattle.r10_script.proofs.script.events_of.Goals as goal

pub loop-value-preserved : goal.loop-value-preserved
loop-value-preserved c =
    rw c.in_ok-push.ensures.items (asks_more (IsStepTable c.args.channels.now) c.in_ok-value-items.value-items.now c.loop-value.value-index c.value-item.result c.loop-value.events.items c.in_ok-event_of.field-0 (table_view c.in_ok-fields.fields.table.now)
    c.loop-value-test.true c.value-item.is c.in_ok-fields.ensures c.in_ok-event_of.ensures c.loop-value.invariant)
