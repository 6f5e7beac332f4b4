use Rattle.r10_packet_rules.proofs.Faults as fault_laws
use Rattle.r10_packet_rules.proofs.laws.one_fault.Goals as goal

pub returns-clause-one : goal.returns-clause-one
returns-clause-one c = fault_laws.one_fault

pub returns-clause-apart : goal.returns-clause-apart
returns-clause-apart c = fault_laws.apart
