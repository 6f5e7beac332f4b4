use Rattle.r10_machine.proofs.Instalments.{instalments_join}
use Rattle.r10_machine.proofs.replay_laws.instalments_join.Goals as goal

pub returns : goal.returns
returns c = instalments_join
