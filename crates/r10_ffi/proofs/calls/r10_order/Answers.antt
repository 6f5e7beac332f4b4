use Rattle.std.proofs.Common.{refl}
use Rattle.r10_ends.proofs.Between.{between}
use Rattle.r10_ffi.proofs.calls.r10_order.Goals as goal

pub returns-clause-hands : goal.returns-clause-hands
returns-clause-hands c = λ bytes is. (c.put.ensures.1, between _ _ _ _ _ _ c.take-held.ensures.taken c.deref_mut.ensures.value c.put.ensures.0 ((refl, c.hand_out.ensures), c.hand_out.ensures.accepted))
