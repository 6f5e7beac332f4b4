use Rattle.r10_file_rules.proofs.Joins.{of_bytes, of_packet}
use Rattle.r10_file_rules.proofs.laws.broken_rules.Goals as goal

pub returns-clause-bytes : goal.returns-clause-bytes
returns-clause-bytes c = of_bytes

pub returns-clause-packet : goal.returns-clause-packet
returns-clause-packet c = of_packet
