use Rattle.r10_refinement.proofs.Leading.{refused}
use Rattle.r10_refinement.proofs.laws.refusals_are_steps.Goals as goal

pub returns : goal.returns
returns c = refused c.a_step_stays_sound.ensures
