use Rattle.std.proofs.Common.{◌≡◌, ◌≤◌, ◌+◌, length}
use Rattle.r10_lane.specs.Lanes.{reached}
use Rattle.r10_bench.proofs.path.offer_all.Given as goal

abbrev pub invariant-loop-count : goal.invariant-loop-count
invariant-loop-count l = (l.lane.spec ≡ l.fn.lane.spec) × (reached l.fn.lane ≤ reached l.lane) × (length l.lane.waiting ≡ length l.fn.lane.waiting + length l.yielded)
