use Rattle.r10_refinement.proofs.Growing.{tick_recorded}
use Rattle.r10_refinement.proofs.laws.ticks_are_steps.Goals as goal

pub returns : goal.returns
returns c = tick_recorded c.a_step_stays_sound.ensures
