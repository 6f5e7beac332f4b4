use Rattle.std.proofs.Common.{Some, ap}
use Rattle.r10_packet_rules.specs.declared.file.FirstFault.{FirstFault}
use Rattle.r10_judge.proofs.judge.Judge.stop_at_report.Goals as goal

pub returns-clause-broken : goal.returns-clause-broken
returns-clause-broken c = λ packets tracked. ap (λ (at : FirstFault). Some at) (c.unanswered.ensures packets tracked)
