use Rattle.std.proofs.Common.{inr, refl, arith}
use Rattle.r10_body.specs.Faults as broken_rules
use Rattle.r10_judge.proofs.judge.Judge.missing.Goals as goal

pub returns-then-packets-eq0 : goal.returns-then-packets-eq0
returns-then-packets-eq0 c = λ bytes goes. broken_rules.packet (inr (omega (arith, c.packets-packets.ensures goes.packets goes.tracked, c.if-packets-eq0.true))) refl

pub returns-then-packets-eq1 : goal.returns-then-packets-eq1
returns-then-packets-eq1 c = λ bytes goes. broken_rules.no_time refl (omega (arith, c.packets-packets.ensures goes.packets goes.tracked, c.if-packets-eq1.true))

pub returns : goal.returns
returns c = λ bytes goes. c.missing_index.ensures bytes goes (omega (arith, c.packets-packets.ensures goes.packets goes.tracked, c.if-packets-eq0.false, c.if-packets-eq1.false))
