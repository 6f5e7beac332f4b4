use Rattle.r10_world.proofs.Joining.{moves, stays}
use Rattle.r10_world.proofs.laws.recorders_calls_are_steps.Goals as goal

pub returns-clause-moves : goal.returns-clause-moves
returns-clause-moves c = moves c.cursors_stay_over_steps.ensures

pub returns-clause-stays : goal.returns-clause-stays
returns-clause-stays c = stays c.cursors_stay_over_steps.ensures
