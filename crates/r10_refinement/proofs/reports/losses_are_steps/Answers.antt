use Rattle.r10_refinement.proofs.LaneCalls.{loss_counted, loss_refused}
use Rattle.r10_refinement.proofs.reports.losses_are_steps.Goals as goal

pub returns-clause-counted : goal.returns-clause-counted
returns-clause-counted c = loss_counted c.a_step_stays_sound.ensures

pub returns-clause-refused : goal.returns-clause-refused
returns-clause-refused c = loss_refused c.a_step_stays_sound.ensures
