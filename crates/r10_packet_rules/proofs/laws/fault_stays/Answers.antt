use Rattle.r10_packet_rules.proofs.Faults as fault_laws
use Rattle.r10_packet_rules.proofs.OneWayApart.{faulty_stays}
use Rattle.r10_packet_rules.proofs.laws.fault_stays.Goals as goal

pub returns-clause-packet : goal.returns-clause-packet
returns-clause-packet c = fault_laws.fault_stays

pub returns-clause-file : goal.returns-clause-file
returns-clause-file c = faulty_stays
