use Rattle.std.proofs.Common.{Some}
use Rattle.r10_calls.proofs.aside.set_aside.Given as goal

-- the medium is named as the one that it is
abbrev pub ghosts-set_aside_bound : goal.ghosts-set_aside_bound
ghosts-set_aside_bound g a = record { medium = Some (g.M.SteadyMedium.identity a.medium) }
