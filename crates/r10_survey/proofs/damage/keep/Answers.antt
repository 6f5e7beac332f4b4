use Rattle.std.proofs.Common.{◌∙◌, arith}
use Rattle.r10_survey.specs.Damage.{most_stretches}
use Rattle.r10_survey.proofs.Stretches.{keeps_more, keeps_same}
use Rattle.r10_survey.proofs.damage.keep.Goals as goal

pub returns-in_ok-push : goal.returns-in_ok-push
returns-in_ok-push c = λ all e.
    c.in_ok-push.ensures.items ∙ keeps_more most_stretches c.args.kept.now.items all c.args.stretch e (omega (arith, c.if-len-lt-MOST_STRETCHES.true, c.len.ensures))

pub returns-else-len-lt-MOST_STRETCHES : goal.returns-else-len-lt-MOST_STRETCHES
returns-else-len-lt-MOST_STRETCHES c = λ all e.
    keeps_same most_stretches c.args.kept.now.items all c.args.stretch e (omega (arith, c.if-len-lt-MOST_STRETCHES.false, c.len.ensures))
