use Rattle.r10_machine.proofs.Said.{closed_stand, growing_stands}
use Rattle.r10_machine.proofs.standing.files_stand.Goals as goal

pub returns : goal.returns
returns c = record { closed = closed_stand; growing = growing_stands }
