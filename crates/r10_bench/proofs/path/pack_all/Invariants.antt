use Rattle.std.proofs.Common.{◌≡◌, List, length}
use Rattle.r10_body.specs.declared.entry.Sample.{Sample as SampleValue}
use Rattle.r10_bench.specs.BuilderAfterLane.{IsBehind}
use Rattle.r10_bench.proofs.path.pack_all.Given as goal

abbrev pub invariant-loop : goal.invariant-loop
invariant-loop g l =
    IsBehind (g.L.LaneOut.spec_of l.lane) (g.L.LaneOut.reached l.lane) l.builder
    × ((samples : List SampleValue) × (g.L.LaneOut.took l.fn.lane samples l.lane × (l.number ≡ length samples)))
    × (l.number ≡ l.counter)
