use Rattle.r10_machine.proofs.Taking.{taken_on}
use Rattle.r10_machine.proofs.replay_laws.a_stop_takes_the_first.Goals as goal

pub returns : goal.returns
returns c = taken_on
