use Rattle.r10_judge.proofs.Places.{one_offset, one_reason, strict_apart}
use Rattle.r10_judge.proofs.laws.one_first_fault.Goals as goal

pub returns-clause-offset : goal.returns-clause-offset
returns-clause-offset c = one_offset

pub returns-clause-fault : goal.returns-clause-fault
returns-clause-fault c = one_reason

pub returns-clause-apart : goal.returns-clause-apart
returns-clause-apart c = strict_apart
