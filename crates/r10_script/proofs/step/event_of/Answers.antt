use Rattle.toml.specs.View.{table_view}
use Rattle.r10_script.proofs.step.event_of.Goals as goal

pub returns-in-Some : goal.returns-in-Some
returns-in-Some c = c.in-Some.ensures c.args.channels.now (table_view c.args.fields.table.now) (c.in_ok-word.ensures, c.in_ok-only.ensures)
