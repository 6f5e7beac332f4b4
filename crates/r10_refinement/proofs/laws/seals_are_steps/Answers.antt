use Rattle.r10_refinement.proofs.Lasting.{sealed}
use Rattle.r10_refinement.proofs.laws.seals_are_steps.Goals as goal

pub returns : goal.returns
returns c = sealed c.a_step_stays_sound.ensures
