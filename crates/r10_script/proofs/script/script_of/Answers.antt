use Rattle.std.proofs.Common.{rules}
use Rattle.toml.specs.View.{table_view}
use Rattle.r10_script.specs.Keys.{HasOnly}
use Rattle.r10_script.specs.Script.{AreSteps, script_keys}
use Rattle.r10_script.proofs.script.script_of.Goals as goal

pub returns-clause-script : goal.returns-clause-script
returns-clause-script c =
    let known : HasOnly script_keys (table_view c.new-top.result.table.now) = c.in_ok-only.ensures in
    let steps : AreSteps c.channels.result.now (table_view c.new-top.result.table.now) c.in_ok-events.events.items = c.in_ok-events.ensures in
    (table_view c.in-Ok.table, c.in-Ok.ensures.ok.1, rw (← c.new-top.ensures) known, search rules, rw (← c.new-top.ensures, ← c.channels.ensures.value) steps)
