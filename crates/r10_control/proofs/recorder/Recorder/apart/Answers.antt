use Rattle.std.proofs.Common.{◌≡◌, List, map, subst}
use Rattle.std.specs.List.{AllByRecursion}
use Rattle.r10_count.specs.Count.{IsCount}
use Rattle.r10_body.specs.declared.spec.ChannelSpec.{ChannelSpec}
use Rattle.r10_control.specs.Keeping.{kept_of}
use Rattle.r10_control.proofs.Exhausted.{owns_spent}
use Rattle.r10_control.proofs.recorder.Recorder.apart.Goals as goal

pub invariant_of-parts : goal.invariant_of-parts
invariant_of-parts g c =
    let w = c.self.inside in
    let k = kept_of w.keeping in
    let lane = g.L.LaneOut in
    let made = subst (λ (ls : List _). c.in-Ok.spent.items ≡ map lane.spec_of ls) c.as_slice.ensures.value c.in-Ok.ensures.spent in
    let range = subst (λ (ls : List _). AllByRecursion (λ l. IsCount (lane.reached l)) ls) c.as_slice.ensures.value c.in-Ok.ensures.range in
    owns_spent lane.spec_of lane.reached k (g.M.BlockMedium.disk w.medium).blocks w.reader.books w.lanes.items c.in-Ok.spent.items made range c.self.invariant
