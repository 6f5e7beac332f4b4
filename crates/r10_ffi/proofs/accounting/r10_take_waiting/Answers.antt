use Rattle.std.proofs.Common.{refl}
use Rattle.r10_ends.proofs.Between.{between}
use Rattle.r10_ffi.proofs.accounting.r10_take_waiting.Goals as goal

pub returns-clause-gives : goal.returns-clause-gives
returns-clause-gives c = λ is. (c.put.ensures.1, between _ _ _ _ _ _ c.take-held.ensures.taken c.deref_mut-inside.ensures.value c.put.ensures.0 (c.take_waiting-answer.ensures.hands, refl))
