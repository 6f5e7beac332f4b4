use Rattle.r10_held.proofs.Keeps.{lanes_looked, stays_known}
use Rattle.r10_held.proofs.Leavings.{still_told}
use Rattle.r10_held.proofs.held.Held.status.Goals as goal

pub invariant_of-self : goal.invariant_of-self
invariant_of-self g c =
    stays_known _ g.N.Rings.rings c.self.inside.recorder c.status.new.self _ (lanes_looked _ g.N.Rings.rings c.self.inside.recorder c.status.new.self c.status.ensures.does.looked c.status.ensures.does.kept c.status.ensures.does.medium c.self.invariant.lanes)
    (still_told c.self.inside.recorder.kept c.status.new.self.kept c.status.ensures.does.kept) c.self.invariant

pub returns-clause-does : goal.returns-clause-does
returns-clause-does g c = rw (← c.self.view_is) c.status.ensures.does
