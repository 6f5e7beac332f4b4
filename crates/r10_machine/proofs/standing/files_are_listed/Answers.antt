use Rattle.r10_machine.proofs.Said.{one_more_said, last_said}
use Rattle.r10_machine.proofs.standing.files_are_listed.Goals as goal

pub returns : goal.returns
returns c = record { more = one_more_said; last = last_said }
