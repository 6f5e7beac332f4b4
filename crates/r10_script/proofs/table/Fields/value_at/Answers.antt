use Rattle.toml.proofs.Views.{table_get}
use Rattle.r10_script.proofs.table.Fields.value_at.Goals as goal

pub returns : goal.returns
returns c = table_get c.get.result c.args.key.now _ c.get.ensures.value
