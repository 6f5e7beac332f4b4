use Rattle.r10_refinement.proofs.Taking.{stopped}
use Rattle.r10_refinement.proofs.laws.stops_are_led.Goals as goal

pub returns : goal.returns
returns c = stopped c.a_step_stays_sound.ensures
