use Rattle.r10_refinement.proofs.Leading.{failed_before, failed_so}
use Rattle.r10_refinement.proofs.laws.failures_are_steps.Goals as goal

pub returns-clause-step : goal.returns-clause-step
returns-clause-step c = failed_so c.a_step_stays_sound.ensures

pub returns-clause-before : goal.returns-clause-before
returns-clause-before c = failed_before
