use Rattle.std.proofs.Common.{[], ◌∷◌}
use Rattle.r10_tests.proofs.readers.a_reader_takes_what_was_published.Given as goal

-- the rings are named for the channels of their ports, and the gauge is the recorder's
abbrev pub ghosts-watch : goal.ghosts-watch
ghosts-watch g a = record { rings = record { channel = 5; ring = a.made.five.ring } ∷ record { channel = 6; ring = a.made.six.ring } ∷ []; gauge = a.made.gauged.cell }
