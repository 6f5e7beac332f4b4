use Rattle.r10_refinement.proofs.Leading.{lacks_memory}
use Rattle.r10_refinement.proofs.laws.lacks_of_memory_are_steps.Goals as goal

pub returns : goal.returns
returns c = lacks_memory c.a_step_stays_sound.ensures
