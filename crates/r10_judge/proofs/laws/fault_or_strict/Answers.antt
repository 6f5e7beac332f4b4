use Rattle.r10_judge.proofs.Either.{either}
use Rattle.r10_judge.proofs.laws.fault_or_strict.Goals as goal

pub returns : goal.returns
returns c = either
