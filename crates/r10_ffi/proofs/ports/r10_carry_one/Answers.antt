use Rattle.std.proofs.Common.{refl}
use Rattle.r10_ends.proofs.Between.{between}
use Rattle.r10_ffi.proofs.ports.r10_carry_one.Goals as goal

pub returns-clause-carries : goal.returns-clause-carries
returns-clause-carries c = λ is. λ end. record {
  is = c.carry_one-carry.result;
  answer_is = refl;
  carried_is = refl;
  is_open = c.put.ensures.1;
  does = between _ _ _ _ _ _ c.take-held.ensures.taken c.deref_mut-inside.ensures.value c.put.ensures.0
      (c.carry_one-carry.ensures.does end, refl, rw c.offer_status.ensures at c.count_accepted.ensures);
}
