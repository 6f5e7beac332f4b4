use Rattle.std.proofs.Common.{◌≡◌, refl, sym, ap, ◌∙◌, arith, Option, List, [], ◌∷◌, ◌++◌}
use Rattle.std.proofs.lemmas.List.{append-nil, nil_from_length}
use Rattle.rtrb.specs.Ring.{received, known_items}
use Rattle.r10_region.specs.Ahead.{links_ahead}
use Rattle.r10_region.specs.Links.{last_name, name_of, told_before}
use Rattle.r10_region.specs.declared.ahead.Ahead.{Ahead}
use Rattle.r10_region.specs.declared.operation.Operation.{Operation as OperationValue}
use Rattle.r10_region.proofs.Lines.{last_name_more}
use Rattle.r10_region.proofs.Turns.{moved_same, not_some, some_known, with_ahead}
use Rattle.r10_region.proofs.orders.Orders.move_on.Goals as goal

pub returns-then-slots_beside-gt0 : goal.returns-then-slots_beside-gt0
returns-then-slots_beside-gt0 c =
    let look = c.slots_beside.ensures in record {
      queue = record { links = refl; first = refl; was = refl; news = refl; spares = refl; room = refl };
      links = refl;
      same = ap (λ (xs : List OperationValue). told_before (received c.args.self.now.done.value) ++ xs) look.looked.1;
      has = record {
        one = _;
        ahead = refl;
        fifo = look.fifo ∙ look.producer.1 ∙ c.in-Some.ahead.same.before;
        some = some_known (known_items c.slots_beside.new.self) c.slots_beside.result look.value (omega (arith, c.if-slots_beside-gt0.true));
      };
    }

pub invariant_of-self-2 : goal.invariant_of-self-2
invariant_of-self-2 c =
    let o = c.args.self.now in let was = c.in-Some.ahead.was.value in let first = name_of o.first.value.end in
    let links : received c.of.result.value ≡ received o.done.value ++ was ∷ [] = ap received c.of.ensures ∙ with_ahead o c.in-Some.ahead (sym c.in-Some.ensures.value) in
    record {
      at = ap (λ (x : _). name_of x.end) c.in-Some.ahead.same.next ∙ sym (ap (last_name first) links ∙ last_name_more first (received o.done.value) was);
      taken = ap received (sym c.of.ensures) ∙ sym (append-nil (received c.of.result.value)) ∙ ap (λ (a : Option Ahead). received c.of.result.value ++ links_ahead a) (sym c.take.ensures.after);
      comes = λ a e. absurd (not_some c.take.new.self a c.take.ensures.after e);
    }

pub returns : goal.returns
returns c =
    let o = c.args.self.now in let look = c.slots_beside.ensures in
    let links : received c.of.result.value ≡ received o.done.value ++ c.in-Some.ahead.was.value ∷ [] = ap received c.of.ensures ∙ with_ahead o c.in-Some.ahead (sym c.in-Some.ensures.value) in
    record {
      queue = record { links = refl; first = refl; was = refl; news = refl; spares = refl; room = refl };
      links = refl;
      same = moved_same (received o.done.value) (received c.of.result.value) c.in-Some.ahead.was.value (received o.ring) (known_items c.slots_beside.new.self) (received c.in-Some.ahead.link.next)
          links c.in-Some.ahead.link.fresh (nil_from_length _ (omega (arith, look.value, c.if-slots_beside-gt0.false)))
          (ap (λ (xs : List OperationValue). xs ++ known_items c.slots_beside.new.self) (sym look.looked.1) ∙ look.fifo ∙ look.producer.1 ∙ c.in-Some.ahead.same.before);
      has = c.take.ensures.after;
    }
