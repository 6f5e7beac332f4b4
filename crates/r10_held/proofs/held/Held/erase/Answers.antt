use Rattle.r10_held.proofs.Keeps.{erase_known}
use Rattle.r10_held.proofs.held.Held.erase.Goals as goal

pub invariant_of-self : goal.invariant_of-self
invariant_of-self g c =
    erase_known _ g.N.Rings.rings c.self.inside.recorder c.erase-emptied.new.self _ _ c.erase-emptied.result _ c.erase-emptied.ensures.does.passed c.erase-emptied.ensures.does.effect c.erase-emptied.ensures.does.refused c.erase-emptied.ensures.does.owned c.erase-emptied.ensures.does.lanes c.erase-emptied.ensures.does.config c.publish_if_done.ensures.grows c.self.invariant

pub returns-clause-does : goal.returns-clause-does
returns-clause-does g c = rw (← c.self.view_is) c.erase-emptied.ensures.does
