use Rattle.r10_refinement.proofs.Lasting.{committed}
use Rattle.r10_refinement.proofs.laws.commits_are_steps.Goals as goal

pub returns : goal.returns
returns c = committed c.a_step_stays_sound.ensures
