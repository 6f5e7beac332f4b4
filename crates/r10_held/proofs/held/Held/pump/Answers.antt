use Rattle.r10_held.proofs.Keeps.{pump_known}
use Rattle.r10_held.proofs.held.Held.pump.Goals as goal

pub invariant_of-self : goal.invariant_of-self
invariant_of-self g c =
    pump_known _ g.N.Rings.rings c.self.inside.recorder c.pump.new.self _ c.args.channel c.args.most _ _ _ _ _ _ _ _ _ _ c.pump.result c.pump.ensures.does.passed c.pump.ensures.does.effect c.pump.ensures.does.refused c.pump.ensures.does.takes c.pump.ensures.does.config c.self.invariant

pub returns-clause-does : goal.returns-clause-does
returns-clause-does g c = rw (← c.self.view_is) c.pump.ensures.does
