use Rattle.r10_session.proofs.running.run_script.Given as goal
use Rattle.r10_session.specs.Lanes.{rings_of}

-- the rings are those of the recorder's lanes, and the gauge is its own
abbrev pub ghosts-run_between : goal.ghosts-run_between
ghosts-run_between g a = record { rings = rings_of a.gauged.recorder.lanes; gauge = a.gauged.cell }
