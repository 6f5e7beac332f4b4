use Rattle.r10_ends.proofs.Between.{between}
use Rattle.r10_ends.proofs.port_end.PortEnd.offer_arinc.Goals as goal

pub returns-clause-does : goal.returns-clause-does
returns-clause-does c = λ is. (c.put.ensures.1, between _ _ _ _ _ _ c.take-sender.ensures.taken c.deref_mut.ensures.value c.put.ensures.0 c.offer_arinc-answer.ensures)
