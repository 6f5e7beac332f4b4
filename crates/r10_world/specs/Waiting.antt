-- A message that is taken out of its lane, to go elsewhere than into a file of the recorder.
use Rattle.std.specs.Prelude.{ℕ}
use Rattle.r10_machine.specs.Calls.{without}
use Rattle.r10_machine.specs.Machine.{Machine, with_lane}
use Rattle.r10_medium.specs.Disk.{Disk}
use Rattle.r10_world.specs.State.{WorldState}
use Rattle.r10_world.specs.WorldSteps.{WorldStandsFor}

-- Each machine for which the old world stands: without the first message that waits on the channel it is one for which the new
-- world stands.
abbrev pub StandsOn : {M : Type 0} → (M → Disk) → ℕ → WorldState M → WorldState M → Type 0
StandsOn disk channel old new = (m : Machine) → WorldStandsFor disk old m
    → WorldStandsFor disk new (with_lane channel (without 1) m)
