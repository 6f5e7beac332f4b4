use Rattle.std.proofs.Common.{Some}
use Rattle.r10_calls.proofs.place.WorldPlace.run_named.Given as goal

-- the medium is named as the one that it is
abbrev pub ghosts-run_bound : goal.ghosts-run_bound
ghosts-run_bound g a = record { medium = Some (g.M.SteadyMedium.identity a.world.recorder.medium) }
