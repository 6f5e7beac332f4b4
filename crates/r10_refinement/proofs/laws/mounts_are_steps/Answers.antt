use Rattle.r10_refinement.proofs.Leading.{mounted}
use Rattle.r10_refinement.proofs.laws.mounts_are_steps.Goals as goal

pub returns : goal.returns
returns c = mounted c.a_step_stays_sound.ensures
