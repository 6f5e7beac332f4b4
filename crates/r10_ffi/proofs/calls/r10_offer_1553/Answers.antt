use Rattle.std.proofs.Common.{refl}
use Rattle.r10_ends.proofs.Between.{between}
use Rattle.r10_ffi.proofs.calls.r10_offer_1553.Goals as goal

pub returns-clause-does : goal.returns-clause-does
returns-clause-does c = λ is. (c.put.ensures.1, between _ _ _ _ _ _ c.take-held.ensures.taken c.deref_mut-inside.ensures.value c.put.ensures.0 (c.offer_1553-answer.ensures.does, refl, c.count_accepted.ensures))
