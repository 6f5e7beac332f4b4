use Rattle.r10_refinement.proofs.Taking.{pumped}
use Rattle.r10_refinement.proofs.laws.pumps_are_led.Goals as goal

pub returns : goal.returns
returns c = pumped c.a_step_stays_sound.ensures
