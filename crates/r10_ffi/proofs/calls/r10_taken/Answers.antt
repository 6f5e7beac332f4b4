use Rattle.std.proofs.Common.{refl}
use Rattle.r10_ends.proofs.Between.{between}
use Rattle.r10_ffi.proofs.calls.r10_taken.Goals as goal

pub returns-clause-stays : goal.returns-clause-stays
returns-clause-stays c = λ is. (c.put.ensures.1, between _ _ _ _ _ _ c.take-held.ensures.taken refl c.put.ensures.0 ((refl, refl), refl))

pub returns-clause-none : goal.returns-clause-none
returns-clause-none c = λ is. (c.put.ensures.1, between _ _ _ _ _ _ c.take-held.ensures.taken refl c.put.ensures.0 (rw c.deref.ensures at c.copy-answer.ensures.none, refl))

pub returns-clause-copies : goal.returns-clause-copies
returns-clause-copies c = λ is. (c.put.ensures.1, between _ _ _ _ _ _ c.take-held.ensures.taken refl c.put.ensures.0 (rw c.deref.ensures at c.copy-answer.ensures.copies, refl))

pub returns-clause-room : goal.returns-clause-room
returns-clause-room c = λ is. (c.put.ensures.1, between _ _ _ _ _ _ c.take-held.ensures.taken refl c.put.ensures.0 (rw c.deref.ensures at c.copy-answer.ensures.room, refl))
