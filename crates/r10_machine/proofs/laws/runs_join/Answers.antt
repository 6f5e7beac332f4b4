use Rattle.r10_machine.proofs.Runs.{joined}
use Rattle.r10_machine.proofs.laws.runs_join.Goals as goal

pub returns : goal.returns
returns c = joined
