use Rattle.r10_ends.proofs.Between.{between}
use Rattle.r10_carrier.proofs.carrying.carry_one.Goals as goal

pub returns-clause-does : goal.returns-clause-does
returns-clause-does g c = λ is. (c.put.ensures.1, between _ _ _ _ _ _ c.take-carrier.ensures.taken c.deref_mut.ensures.value c.put.ensures.0 c.carry_into_lane-carry.ensures.does)
