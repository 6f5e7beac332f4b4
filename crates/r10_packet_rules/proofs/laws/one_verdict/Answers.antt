use Rattle.r10_packet_rules.proofs.OneWayApart.{one_count, one_offset, one_reason, apart_files}
use Rattle.r10_packet_rules.proofs.laws.one_verdict.Goals as goal

pub returns-clause-opaque : goal.returns-clause-opaque
returns-clause-opaque c = one_count

pub returns-clause-offset : goal.returns-clause-offset
returns-clause-offset c = one_offset

pub returns-clause-fault : goal.returns-clause-fault
returns-clause-fault c = one_reason

pub returns-clause-apart : goal.returns-clause-apart
returns-clause-apart c = apart_files
