use Rattle.r10_held.proofs.Keeps.{settles_known}
use Rattle.r10_held.proofs.Leavings.{seal_left}
use Rattle.r10_held.proofs.held.Held.seal.Goals as goal

pub invariant_of-self : goal.invariant_of-self
invariant_of-self g c =
    settles_known _ g.N.Rings.rings c.self.inside.recorder c.seal.new.self _ (seal_left g.M.BlockMedium.disk _ _ _ _ _ c.seal.result c.seal.ensures.does.passed c.seal.ensures.does.effect c.seal.ensures.does.refused)
    c.seal.ensures.does.owned c.seal.ensures.does.lanes c.seal.ensures.does.config c.self.invariant

pub returns-clause-does : goal.returns-clause-does
returns-clause-does g c = rw (← c.self.view_is) c.seal.ensures.does
