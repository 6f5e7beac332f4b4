use Rattle.std.proofs.Common.{refl}
use Rattle.r10_ends.proofs.Between.{between}
use Rattle.r10_ffi.proofs.calls.r10_queue.Goals as goal

pub returns-clause-counts : goal.returns-clause-counts
returns-clause-counts c = λ is. (c.put.ensures.1, between _ _ _ _ _ _ c.take-held.ensures.taken c.deref_mut.ensures.value c.put.ensures.0 ((refl, refl, c.count.ensures), refl))
