use Rattle.std.proofs.Common.{subst}
use Rattle.r10_count.specs.Count.{IsCount}
use Rattle.r10_machine.specs.Machine.{Lane}
use Rattle.r10_machine.specs.SoundParts.{count_or_0}
use Rattle.r10_lane.proofs.Waiting.{reached_in_range}
use Rattle.r10_lane.proofs.ring_lane.RingLaneLaneOut.in_range.Goals as goal

pub returns : goal.returns
returns c =
    let lane = c.args.self.now in
    let last = subst (λ (v : Lane). IsCount (count_or_0 v.last)) c.self.view_is (subst IsCount c.last_in-last.ensures.value c.last_in-last.ensures.range) in
    reached_in_range (count_or_0 lane.last) lane.waiting c.waits.ensures.climbs last
