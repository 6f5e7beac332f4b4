use Rattle.r10_refinement.proofs.Leading.{ticked}
use Rattle.r10_refinement.proofs.laws.idle_ticks_are_steps.Goals as goal

pub returns : goal.returns
returns c = ticked c.a_step_stays_sound.ensures
