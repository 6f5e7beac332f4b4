use Rattle.r10_held.proofs.Keeps.{settles_known}
use Rattle.r10_held.proofs.Leavings.{dismount_left}
use Rattle.r10_held.proofs.held.Held.dismount.Goals as goal

pub invariant_of-self : goal.invariant_of-self
invariant_of-self g c =
    settles_known _ g.N.Rings.rings c.self.inside.recorder c.dismount.new.self _ (dismount_left _ _ _ _ _ _ c.dismount.result c.dismount.ensures.does.passed c.dismount.ensures.does.effect c.dismount.ensures.does.refused)
    c.dismount.ensures.does.owned c.dismount.ensures.does.lanes c.dismount.ensures.does.config c.self.invariant

pub returns-clause-does : goal.returns-clause-does
returns-clause-does g c = rw (← c.self.view_is) c.dismount.ensures.does
