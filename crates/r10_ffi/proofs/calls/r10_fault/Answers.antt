use Rattle.std.proofs.Common.{refl}
use Rattle.r10_ends.proofs.Between.{between}
use Rattle.r10_ffi.proofs.calls.r10_fault.Goals as goal

pub returns-clause-gives : goal.returns-clause-gives
returns-clause-gives c = λ is. (c.put.ensures.1, between _ _ _ _ _ _ c.take-held.ensures.taken refl c.put.ensures.0 ((refl, refl, refl, rw c.deref.ensures at c.fault.ensures), refl))
