use Rattle.std.proofs.Common.{refl}
use Rattle.r10_ends.proofs.Between.{between}
use Rattle.r10_ffi.proofs.calls.r10_next.Goals as goal

pub returns-clause-does : goal.returns-clause-does
returns-clause-does c = λ bytes words is. (c.put.ensures.1, between _ _ _ _ _ _ c.take-held.ensures.taken c.deref_mut.ensures.value c.put.ensures.0 ((c.next-answer.ensures.does bytes words, refl), refl))

pub returns-clause-room : goal.returns-clause-room
returns-clause-room c = λ small is. let r = c.next-answer.ensures.room small in (c.put.ensures.1, between _ _ _ _ _ _ c.take-held.ensures.taken c.deref_mut.ensures.value c.put.ensures.0 ((r.0, r.1, refl, r.2), refl))
