use Rattle.std.proofs.Common.{refl, sym, ap, ◌∙◌}
use Rattle.std.proofs.lemmas.List.{get_or_default}
use Rattle.r10_body.specs.declared.spec.ChannelSpec.{ChannelSpec}
use Rattle.r10_machine.specs.Machine.{fresh_lane}
use Rattle.r10_session.proofs.Pairing.{all_paired, none_paired, one_paired}
use Rattle.r10_session.proofs.ends.lanes_of.Goals as goal

pub loop-place-init : goal.loop-place-init
loop-place-init c = none_paired _ _ _ c.new-senders.ensures.items c.new-outlets.ensures.items

pub loop-place-preserved : goal.loop-place-preserved
loop-place-preserved c =
    let ends = c.in_ok-port.ensures in
    let spec = c.in_ok-port.outlet.spec in
    rw (c.in_ok-push.ensures.items, c.in_ok-push-2.ensures.items)
    (one_paired c.args.channels.now c.loop-place.place c.loop-place.senders.items c.loop-place.outlets.items spec _ c.in_ok-port.outlet c.loop-place.invariant c.loop-place-test.true
    (ends.outlet.0 ∙ get_or_default c.args.channels.now c.loop-place.place _ spec c.loop-place-test.true)
    (record {
      channel_is = ap (λ (s : ChannelSpec). s.id) (sym ends.outlet.0);
      lane_is = ends.port.0 ∙ ap (λ (s : ChannelSpec). fresh_lane s) (sym ends.outlet.0);
      spec_is = refl;
      received_is = ends.outlet.1;
      ring_is = ends.ring;
    }))

pub returns : goal.returns
returns c = all_paired _ _ _ _ c.loop-place.invariant c.loop-place-test.false
