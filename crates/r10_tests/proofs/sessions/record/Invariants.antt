use Rattle.std.proofs.Common.{[], ◌∷◌}
use Rattle.r10_tests.proofs.sessions.record.Given as goal

-- the rings are named for the channels of their ports, and the gauge is the recorder's
abbrev pub ghosts-run_two : goal.ghosts-run_two
ghosts-run_two g a = record { rings = record { channel = 5; ring = a.made.five.ring } ∷ record { channel = 6; ring = a.made.six.ring } ∷ []; gauge = a.made.gauged.cell }
