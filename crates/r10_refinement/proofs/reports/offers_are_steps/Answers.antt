use Rattle.r10_refinement.proofs.LaneCalls.{offer_refused, offered}
use Rattle.r10_refinement.proofs.reports.offers_are_steps.Goals as goal

pub returns-clause-accepted : goal.returns-clause-accepted
returns-clause-accepted c = offered c.a_step_stays_sound.ensures

pub returns-clause-refused : goal.returns-clause-refused
returns-clause-refused c = offer_refused c.a_step_stays_sound.ensures
