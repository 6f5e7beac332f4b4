use Rattle.r10_refinement.proofs.Leading.{dismounted}
use Rattle.r10_refinement.proofs.laws.dismounts_are_steps.Goals as goal

pub returns : goal.returns
returns c = dismounted c.a_step_stays_sound.ensures
