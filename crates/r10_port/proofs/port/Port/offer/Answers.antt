use Rattle.std.proofs.Common.{Some, Ok, Err, arith, subst, min, length-append, ◌∷◌, [], ◌∙◌}
use Rattle.rtrb.specs.Ring.{sent, known_free}
use Rattle.r10_port.specs.Ends.{Sending, Offered, ring_of}
use Rattle.r10_body.specs.declared.refusal.Refusal.TheVariants.{Overflow}
use Rattle.r10_port.specs.declared.item.Item.TheVariants.{Announce, Entry}
use Rattle.r10_port.proofs.Items.{first_stays, last_pushed, one_more}
use Rattle.r10_port.proofs.Steps.{sample, sending, sends, loses}
use Rattle.r10_port.proofs.port.Port.offer.Goals as goal
use Rattle.r10_port.proofs.port.Port.offer.Goals.{in-Ok, in-Err-push_within}

pub invariant_of-self : goal.invariant_of-self
invariant_of-self c =
    let s = c.self.inside in
    let items = sent s.producer in
    let x = sample c.args.count c.args.message c.after-gap.result in
    rw c.in-Ok.ensures.ok.1 (record {
      announced = first_stays items _ (Announce s.spec) c.self.invariant.announced;
      last = last_pushed items x;
      counted = omega (arith, one_more items x, c.saturating_add-self-inside.ensures, c.self.invariant.counted);
      entries = omega (arith, one_more items x, length-append items (Entry x ∷ []), c.self.invariant.entries);
      places = c.push_within.ensures.ring.1 ∙ c.self.invariant.places;
      room = λ none. absurd (omega (arith, none, c.in-Ok.ensures.ok.0));
    })

pub returns-clause-offered : goal.returns-clause-offered
returns-clause-offered c =
    let s = c.self.inside in
    let old = s.producer in
    let new = c.push_within.new.producer in
    let r = c.push_within.ensures.ring.0 in
    let fine = rw c.get.ensures.value at c.in_default.ensures.1 in
    elim c.match-push_within.branch [
      | in-Ok w ↦ rw (w.self-is, w.result-is) (
          subst (λ (v : Sending). Offered v c.args.count c.args.message (Ok tt) (sending (ring_of new.end) s.spec (sent new) (Some c.args.count) 0 s.lost (min s.spec.capacity (known_free new)))) c.self.view_is (
          sends (ring_of old.end) (ring_of new.end) s.spec (sent old) (sent new) s.last s.missed s.lost (min s.spec.capacity (known_free old)) (min s.spec.capacity (known_free new)) c.args.count c.args.message c.after-gap.result
          c.after-gap.ensures.is (λ i. (r.0 i, r.1 i, r.2 i, r.3 i)) w.in-Ok.ensures.ok.1 w.in-Ok.ensures.ok.2 fine))
      | in-Err-push_within w ↦
          let full = w.in-Err-push_within.ensures.full in
          let missed = w.saturating_add-self-inside-in-Err-push_within in
          let lost = w.saturating_add-self-inside-in-Err-push_within-2 in
          rw (w.self-is, w.result-is) (
          subst (λ (v : Sending). Offered v c.args.count c.args.message (Err Overflow) (sending (ring_of new.end) s.spec (sent new) s.last missed.result lost.result (min s.spec.capacity (known_free new)))) c.self.view_is (
          loses (ring_of old.end) (ring_of new.end) s.spec (sent old) (sent new) s.last s.missed missed.result s.lost lost.result (min s.spec.capacity (known_free old)) (min s.spec.capacity (known_free new)) c.args.count c.args.message
          (λ i. (r.0 i, r.1 i, r.2 i, r.3 i)) full.0 full.1 full.2 missed.ensures lost.ensures fine))
    ]
