use Rattle.r10_machine.proofs.Said.{directory_turns}
use Rattle.r10_machine.proofs.standing.directories_turn.Goals as goal

pub returns : goal.returns
returns c = directory_turns
