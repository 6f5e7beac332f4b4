use Rattle.std.proofs.Common.{rules}
use Rattle.r10_gauge.proofs.Steps.{halves}
use Rattle.r10_gauge.proofs.cell.halve.Goals as goal

pub split_pass-requires : goal.split_pass-requires
split_pass-requires g c = (search rules, (search rules, (search rules, halves _ _ _)))
