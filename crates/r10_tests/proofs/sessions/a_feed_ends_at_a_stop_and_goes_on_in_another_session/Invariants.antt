use Rattle.std.proofs.Common.{[], ◌∷◌}
use Rattle.r10_tests.proofs.sessions.a_feed_ends_at_a_stop_and_goes_on_in_another_session.Given as goal

-- the rings are named for the channels of their ports, and the gauge is the recorder's
abbrev pub ghosts-run_twice : goal.ghosts-run_twice
ghosts-run_twice g a = record { rings = record { channel = 5; ring = a.made.five.ring } ∷ record { channel = 6; ring = a.made.six.ring } ∷ []; gauge = a.made.gauged.cell }
