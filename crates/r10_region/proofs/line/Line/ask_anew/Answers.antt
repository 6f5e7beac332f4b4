use Rattle.std.proofs.Common.{refl, arith, inr, ap, ◌∙◌, ◌++◌, ◌∷◌, [], List, sym}
use Rattle.std.proofs.lemmas.Bool.{true≢false}
use Rattle.rtrb.specs.Ring.{sent}
use Rattle.r10_region.proofs.Lines.{told_anew, producer_on, out_on, last_anew, linked_anew, name_is, ring_is}
use Rattle.r10_region.specs.Links.{name_of}
use Rattle.r10_region.specs.declared.operation.Operation.{Operation as OperationValue}
use Rattle.r10_region.proofs.line.Line.ask_anew.Goals as goal

pub invariant_of-self-2 : goal.invariant_of-self-2
invariant_of-self-2 c =
    let line = c.args.self.now in let first = name_of line.first.value.end in let spare = c.in-Some.spare in record {
      last = last_anew first _ (sent line.links) _ _ _ c.push_reserved-2.ensures.sent.0 c.is_full.ensures.looked.1
          (ap (λ (p : _). name_of p.end) c.replace-before.ensures.after ∙ name_is spare.ring.end c.push_reserved.new.self.end c.push_reserved.ensures.ring.0 ∙ sym (name_is spare.ring.end spare.next.end spare.pair));
      linked = linked_anew first (sent line.links) _ _ _ c.push_reserved-2.ensures.sent.0 c.is_full.ensures.looked.1 line.linked (ap (λ (p : _). name_of p.end) c.replace-before.ensures.value ∙ line.last);
    }

pub returns-clause-reported : goal.returns-clause-reported
returns-clause-reported c =
    told_anew (sent c.args.self.now.links) _ _ _ _ _ c.args.operation c.push_reserved-2.ensures.sent.0 c.is_full.ensures.looked.1 (ap sent c.replace-before.ensures.value)
    (ap sent c.replace-before.ensures.after ∙ c.push_reserved.ensures.sent.0 ∙ ap (λ (xs : List OperationValue). xs ++ c.args.operation ∷ []) c.in-Some.spare.fresh.0)

pub returns-clause-keeps : goal.returns-clause-keeps
returns-clause-keeps c = let spare = c.in-Some.spare in record {
  links = producer_on c.args.self.now.links c.is_full.new.self c.push_reserved-2.new.self c.is_full.ensures.looked.0 c.push_reserved-2.ensures.ring;
  ring = inr (record {
    link = _;
    out = out_on _ _ _ _ c.push_reserved-2.ensures.sent.0 c.is_full.ensures.looked.1;
    before = ap sent c.replace-before.ensures.value;
    pair = ring_is c.replace-before.new.dest.end spare.next.end
        (ap (λ (p : _). name_of p.end) c.replace-before.ensures.after ∙ name_is spare.ring.end c.push_reserved.new.self.end c.push_reserved.ensures.ring.0 ∙ sym (name_is spare.ring.end spare.next.end spare.pair));
    fresh = spare.fresh.1;
  });
  places = omega (arith, c.requires);
  full = λ e. absurd (true≢false e);
  spares = c.further.ensures.spares;
  first = refl;
  no_spare = λ e. absurd (true≢false e);
}
