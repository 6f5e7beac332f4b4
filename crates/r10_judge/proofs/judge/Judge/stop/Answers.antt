use Rattle.std.proofs.Common.{ℕ, Some, ap}
use Rattle.r10_body.specs.declared.fault.FileFault.TheVariants.{Rule}
use Rattle.r10_packet_rules.specs.declared.file.FirstFault.{FirstFault}
use Rattle.r10_judge.proofs.judge.Judge.stop.Goals as goal

at_offset : ℕ → ℕ → FirstFault
at_offset n offset = record { offset = offset; fault = Rule n }

pub returns-clause-broken : goal.returns-clause-broken
returns-clause-broken c = λ packets tracked. ap (λ offset. Some (record { offset = offset; fault = Rule c.args.rule })) (c.bytes-offset.ensures packets tracked)
