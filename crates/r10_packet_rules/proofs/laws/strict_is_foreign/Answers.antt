use Rattle.r10_packet_rules.proofs.Written.{packet_foreign, packet_clear, strict_foreign}
use Rattle.r10_packet_rules.proofs.laws.strict_is_foreign.Goals as goal

pub returns-clause-packet : goal.returns-clause-packet
returns-clause-packet c = packet_foreign

pub returns-clause-clear : goal.returns-clause-clear
returns-clause-clear c = packet_clear

pub returns-clause-file : goal.returns-clause-file
returns-clause-file c = strict_foreign
