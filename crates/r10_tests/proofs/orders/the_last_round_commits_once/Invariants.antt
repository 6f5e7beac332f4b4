use Rattle.std.proofs.Common.{[], ◌∷◌}
use Rattle.r10_tests.proofs.orders.the_last_round_commits_once.Given as goal

-- the rings are named for the channels of their ports, and the gauge is the recorder's
abbrev pub ghosts-publications : goal.ghosts-publications
ghosts-publications g a = record { rings = record { channel = 5; ring = a.made.five.ring } ∷ record { channel = 6; ring = a.made.six.ring } ∷ []; gauge = a.made.gauged.cell }
