use Rattle.std.proofs.Common.{ℕ, ◌-◌, ap, ◌∙◌}
use Rattle.r10_body.specs.declared.fault.FileFault.TheVariants.{Rule}
use Rattle.r10_judge.proofs.judge.Judge.unanswered.Goals as goal

pub returns : goal.returns
returns c = λ packets tracked. ap (λ offset. record { offset = offset; fault = Rule 11 }) (c.saturating_sub-offset.ensures ∙ ap (λ (n : ℕ). n - 44) (c.bytes.ensures packets tracked))
