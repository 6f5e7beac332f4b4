use Rattle.std.proofs.Common.{rules}
use Rattle.r10_gauge.proofs.Steps.{meets}
use Rattle.r10_gauge.proofs.cell.absorb.Goals as goal

pub join_pass-requires : goal.join_pass-requires
join_pass-requires g c = (search rules, (search rules, (search rules, meets _ _ _ _ _)))
