use Rattle.std.proofs.Common.{refl}
use Rattle.r10_shared.proofs.Shows.{showing_none}
use Rattle.r10_shared.proofs.Turns.{fed_let, fed_shut}
use Rattle.r10_shared.proofs.source.feed_port.Goals as goal

pub returns-then-passed-clause-fed : goal.returns-then-passed-clause-fed
returns-then-passed-clause-fed g c = fed_let (g.G.Gate.answers c.args.gate.now c.args.worker) (g.S.Stop.answers c.args.stop.now) _ _ _ _ c.pass-passed.result c.pass-passed.ensures c.if-passed.true c.feed_all.ensures.fed

pub returns-else-passed-clause-fed : goal.returns-else-passed-clause-fed
returns-else-passed-clause-fed g c = fed_shut (g.G.Gate.answers c.args.gate.now c.args.worker) (g.S.Stop.answers c.args.stop.now) _ _ _ _ c.pass-passed.result c.pass-passed.ensures c.if-passed.false refl refl

pub returns-else-passed-clause-shown : goal.returns-else-passed-clause-shown
returns-else-passed-clause-shown g c = showing_none _ _ _ _ _ refl refl
