use Rattle.std.proofs.Common.{refl}
use Rattle.r10_ends.proofs.Between.{between}
use Rattle.r10_ends.proofs.port_end.PortEnd.state.Goals as goal

pub returns-clause-does : goal.returns-clause-does
returns-clause-does c = λ is. (c.put.ensures.1, between _ _ _ _ _ _ c.take-sender.ensures.taken refl c.put.ensures.0 (refl, refl, rw c.deref.ensures at c.state.ensures))
