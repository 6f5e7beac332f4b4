use Rattle.r10_refinement.proofs.Growing.{file_started}
use Rattle.r10_refinement.proofs.laws.starts_are_steps.Goals as goal

pub returns : goal.returns
returns c = file_started c.a_step_stays_sound.ensures
