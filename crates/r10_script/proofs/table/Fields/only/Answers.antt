use Rattle.r10_script.proofs.Known.{only_known}
use Rattle.r10_script.proofs.table.Fields.only.Goals as goal

pub returns-in-None : goal.returns-in-None
returns-in-None c = only_known c.args.known.now c.args.self.now.table.now c.in-None.ensures
