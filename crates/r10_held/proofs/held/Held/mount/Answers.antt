use Rattle.r10_held.proofs.Keeps.{settles_known}
use Rattle.r10_held.proofs.Leavings.{mount_left}
use Rattle.r10_held.proofs.held.Held.mount.Goals as goal

pub invariant_of-self : goal.invariant_of-self
invariant_of-self g c =
    settles_known _ g.N.Rings.rings c.self.inside.recorder c.mount.new.self _ (mount_left _ _ _ _ _ _ c.mount.result c.mount.ensures.does.passed c.mount.ensures.does.effect c.mount.ensures.does.refused)
    c.mount.ensures.does.owned c.mount.ensures.does.lanes c.mount.ensures.does.config c.self.invariant

pub returns-clause-does : goal.returns-clause-does
returns-clause-does g c = rw (← c.self.view_is) c.mount.ensures.does
