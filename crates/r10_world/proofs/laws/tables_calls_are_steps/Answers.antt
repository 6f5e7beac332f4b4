use Rattle.r10_world.proofs.Joining.{advances, closes, gives, opens}
use Rattle.r10_world.proofs.laws.tables_calls_are_steps.Goals as goal

pub returns-clause-opens : goal.returns-clause-opens
returns-clause-opens c = opens c.a_step_stays_sound.ensures

pub returns-clause-advances : goal.returns-clause-advances
returns-clause-advances c = advances c.a_step_stays_sound.ensures

pub returns-clause-gives : goal.returns-clause-gives
returns-clause-gives c = gives c.a_step_stays_sound.ensures

pub returns-clause-closes : goal.returns-clause-closes
returns-clause-closes c = closes c.a_step_stays_sound.ensures
