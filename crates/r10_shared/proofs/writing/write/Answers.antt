use Rattle.r10_shared.proofs.Stepping.{gone, gone_on}
use Rattle.r10_shared.proofs.writing.write.Goals as goal

pub returns-then-not-step : goal.returns-then-not-step
returns-then-not-step g c = gone g.W.Writing.asked g.met.W.Writing.joins _ _ _ c.step.result c.loop.invariant c.step.ensures (search)

pub loop-preserved : goal.loop-preserved
loop-preserved g c = gone_on g.W.Writing.asked g.met.W.Writing.joins _ _ _ c.step.result c.loop.invariant c.step.ensures (search)
