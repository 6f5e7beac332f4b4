use Rattle.std.proofs.Common.{refl}
use Rattle.r10_ends.proofs.Between.{between}
use Rattle.r10_ffi.proofs.calls.r10_disk_failed.Goals as goal

pub returns-clause-reported : goal.returns-clause-reported
returns-clause-reported c = λ is. (c.put.ensures.1, between _ _ _ _ _ _ c.take-held.ensures.taken c.deref_mut.ensures.value c.put.ensures.0 ((refl, refl, c.disk_failed.ensures), refl))
