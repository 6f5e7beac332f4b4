use Rattle.std.proofs.Common.{rules}
use Rattle.r10_gauge.proofs.Steps.{looks}
use Rattle.r10_gauge.proofs.cell.look.Goals as goal

pub load_as-requires : goal.load_as-requires
load_as-requires g c = (search rules, (search rules, (search rules, looks _ _ _)))
