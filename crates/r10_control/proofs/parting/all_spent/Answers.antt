use Rattle.std.proofs.Common.{◌+◌, List, [], ◌∷◌, length, sym, ap, subst, arith, ◌∙◌}
use Rattle.std.proofs.lemmas.List.{length-append}
use Rattle.r10_body.specs.declared.spec.ChannelSpec.{ChannelSpec}
use Rattle.r10_control.proofs.Exhausted.{AreSpent, spends_more, spends_none}
use Rattle.r10_control.proofs.parting.all_spent.Goals as goal

pub loop-at-init : goal.loop-at-init
loop-at-init g c =
    let lane = g.L.LaneOut in
    record {
      room = omega (arith, c.in_ok-spent.ensures.capacity);
      number = ap (λ (l : List ChannelSpec). length l) c.in_ok-spent.ensures.items;
      far = subst (λ (l : List ChannelSpec). AreSpent lane.spec_of lane.reached c.args.lanes.now 0 l) (sym c.in_ok-spent.ensures.items) (spends_none lane.spec_of lane.reached c.args.lanes.now);
    }

pub loop-at-preserved : goal.loop-at-preserved
loop-at-preserved g c =
    let lane = g.L.LaneOut in
    let lanes = c.args.lanes.now in
    let at = c.loop-at.at in
    let inv = c.loop-at.invariant in
    record {
      room = omega (arith, inv.room, c.push_reserved.ensures.capacity);
      number = omega (arith, ap (λ (l : List ChannelSpec). length l) c.push_reserved.ensures.items, length-append c.loop-at.spent.items (c.of.result ∷ []), inv.number);
      far = subst (λ (l : List ChannelSpec). AreSpent lane.spec_of lane.reached lanes (at + 1) l) (sym c.push_reserved.ensures.items)
          (spends_more lane.spec_of lane.reached lanes at c.index-lanes-at.result c.loop-at.spent.items c.of.result c.index-lanes-at.is c.loop-at-test.true c.in_range.ensures (c.of.ensures ∙ c.spec.ensures) inv.far);
    }
