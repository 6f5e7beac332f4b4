use Rattle.r10_refinement.proofs.Leading.{erased}
use Rattle.r10_refinement.proofs.laws.erases_are_steps.Goals as goal

pub returns : goal.returns
returns c = erased c.a_step_stays_sound.ensures
