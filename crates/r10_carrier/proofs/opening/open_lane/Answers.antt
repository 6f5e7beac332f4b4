use Rattle.r10_carrier.proofs.Lanes.{opens}
use Rattle.r10_carrier.proofs.opening.open_lane.Goals as goal

pub returns-clause-opens : goal.returns-clause-opens
returns-clause-opens c = λ zero. opens _ _ c.in-Ok.settings _ _ _ _ _ _ c.in-Ok.ensures.settings c.channels.ensures.value c.channels-2.ensures.value c.in-Some.ensures c.spec_at-spec.ensures
    (c.open_ends.ensures.opens zero)
