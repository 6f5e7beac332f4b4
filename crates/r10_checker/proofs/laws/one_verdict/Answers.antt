use Rattle.r10_packet_rules.proofs.Written.{strict_foreign}
use Rattle.r10_checker.proofs.One.{one_verdict}
use Rattle.r10_checker.proofs.laws.one_verdict.Goals as goal

pub returns-clause-one : goal.returns-clause-one
returns-clause-one c = one_verdict

pub returns-clause-strict : goal.returns-clause-strict
returns-clause-strict c = strict_foreign
