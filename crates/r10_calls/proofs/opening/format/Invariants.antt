use Rattle.std.proofs.Common.{Some}
use Rattle.r10_calls.proofs.opening.format.Given as goal

-- the medium is named as the one that it is
abbrev pub ghosts-format_bound : goal.ghosts-format_bound
ghosts-format_bound g a = record { medium = Some (g.M.SteadyMedium.identity a.medium) }
