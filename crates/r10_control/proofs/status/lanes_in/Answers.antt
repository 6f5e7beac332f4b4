use Rattle.std.proofs.Common.{◌<◌, ◌+◌, List, [], ◌∷◌, ◌++◌, length, set, refl, sym, ap, ◌∙◌, subst, arith}
use Rattle.std.proofs.lemmas.List.{length-append, length-set}
use Rattle.r10_control.specs.RecorderStatus.{TellsLanes}
use Rattle.r10_control.specs.declared.status.LaneStatus.{LaneStatus}
use Rattle.r10_control.proofs.LooksAtLanes.{Further, none_took, one_further}
use Rattle.r10_control.proofs.status.lanes_in.Goals as goal

pub returns-in_err-reported-clause-took : goal.returns-in_err-reported-clause-took
returns-in_err-reported-clause-took g c = none_took g.L.LaneOut.took g.L.LaneOut.spec_of c.args.lanes.now.items g.met.L.LaneOut.stays

pub loop-at-init : goal.loop-at-init
loop-at-init g c =
    let lane = g.L.LaneOut in
    record {
      long = refl;
      room = omega (arith, c.in_ok-reported.ensures.capacity, c.len.ensures);
      number = ap (λ (l : List LaneStatus). length l) c.in_ok-reported.ensures.items;
      far = record {
        took_all = none_took lane.took lane.spec_of c.args.lanes.now.items g.met.L.LaneOut.stays;
        tells = subst (λ (l : List LaneStatus). TellsLanes lane.quiet lane.spec_of c.args.mode [] [] l) (sym c.in_ok-reported.ensures.items) tt;
      };
    }

pub loop-at-preserved : goal.loop-at-preserved
loop-at-preserved g c =
    let lane = g.L.LaneOut in
    let laws = g.met.L.LaneOut in
    let lanes = c.args.lanes.now.items in
    let now = c.loop-at.lanes.items in
    let at = c.loop-at.at in
    let one = c.index_mut-lane.result.now in
    let inv = c.loop-at.invariant in
    let lt : at < length lanes = omega (arith, inv.long, c.loop-at-test.true, c.len-at-end.ensures) in
    record {
      long = length-set now at c.lane_in.new.lane ∙ inv.long;
      room = omega (arith, inv.room, c.push_reserved.ensures.capacity);
      number = omega (arith, ap (λ (l : List LaneStatus). length l) c.push_reserved.ensures.items, length-append c.loop-at.reported.items (c.lane_in.result ∷ []), inv.number);
      far = subst (λ (l : List LaneStatus). Further lane.took lane.quiet lane.spec_of c.args.mode lanes (set now at c.lane_in.new.lane) c.args.erased.now l (at + 1)) (sym c.push_reserved.ensures.items)
          (one_further lane.took lane.quiet lane.spec_of c.args.mode lanes now c.args.erased.now c.loop-at.reported.items at one c.lane_in.new.lane c.lane_in.result laws.keeps_spec laws.stays_quiet laws.took_none
          c.index_mut-lane.ensures.value lt c.requires inv.far c.lane_in.ensures.took c.lane_in.ensures.reported);
    }
