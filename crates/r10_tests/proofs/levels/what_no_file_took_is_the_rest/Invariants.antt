use Rattle.std.proofs.Common.{[], ◌∷◌}
use Rattle.r10_tests.proofs.levels.what_no_file_took_is_the_rest.Given as goal

-- the rings are named for the channels of their ports, and the gauge is the recorder's
abbrev pub ghosts-run_watched : goal.ghosts-run_watched
ghosts-run_watched g a = record { rings = record { channel = 5; ring = a.made.five.ring } ∷ record { channel = 6; ring = a.made.six.ring } ∷ []; gauge = a.made.gauged.cell }
