use Rattle.std.proofs.Common.{sym}
use Rattle.r10_arguments.proofs.Giving.{one_of}
use Rattle.r10_arguments.proofs.options.is_one_of.Goals as goal

pub returns-then-eq : goal.returns-then-eq
returns-then-eq c = λ yes. one_of c.args.texts.now c.loop-t.t-index _ c.args.text.now c.loop-t-test.true (sym c.if-eq.ensures)
