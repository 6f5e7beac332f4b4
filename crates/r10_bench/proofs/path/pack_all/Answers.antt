use Rattle.std.proofs.Common.{◌++◌, ◌∷◌, [], sym, ◌∙◌, arith, length-append}
use Rattle.r10_bench.proofs.Following.{later}
use Rattle.r10_bench.proofs.path.pack_all.Goals as goal

pub loop-preserved : goal.loop-preserved
loop-preserved g c =
    let lane = g.L.LaneOut in
    let laws = g.met.L.LaneOut in
    let old = c.loop.lane in
    let new = c.take.new.self in
    let first = c.in-Some.sample in
    let taken = c.in-Some.ensures in
    let (behind, before, counter) = c.loop.invariant in
    let samples = before.0 in (
      later c.loop.builder.spec (lane.spec_of new) first.count (lane.reached new) c.pack.new.builder c.pack.ensures (laws.keeps_spec old new (first ∷ []) taken.took ∙ sym behind.same) taken.climbs.1,
      (samples ++ first ∷ [], (laws.joins c.args.lane.now old new samples (first ∷ []) before.1.0 taken.took, omega (arith, before.1.1, length-append samples (first ∷ [])))),
      omega (arith, counter),
    )
