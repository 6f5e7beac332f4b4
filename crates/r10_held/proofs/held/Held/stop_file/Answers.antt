use Rattle.r10_held.proofs.Keeps.{stop_known}
use Rattle.r10_held.proofs.held.Held.stop_file.Goals as goal

pub invariant_of-self : goal.invariant_of-self
invariant_of-self g c =
    stop_known _ g.N.Rings.rings c.self.inside.recorder c.stop_file-stopped.new.self _ _ _ _ _ _ _ _ _ _ _ c.stop_file-stopped.result _ c.stop_file-stopped.ensures.does.passed c.stop_file-stopped.ensures.does.refused c.stop_file-stopped.ensures.does.takes
    c.stop_file-stopped.ensures.does.config c.publish_if_done.ensures.grows c.self.invariant

pub returns-clause-does : goal.returns-clause-does
returns-clause-does g c = rw (← c.self.view_is) c.stop_file-stopped.ensures.does
