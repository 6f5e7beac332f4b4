use Rattle.r10_lane.specs.Lanes.{reached}
use Rattle.r10_bench.specs.BuilderAfterLane.{IsBehind}
use Rattle.r10_bench.proofs.bench.run.Given as goal

abbrev pub invariant-loop-first : goal.invariant-loop-first
invariant-loop-first g l = IsBehind l.bench.lane.spec (reached l.bench.lane) l.bench.builder
