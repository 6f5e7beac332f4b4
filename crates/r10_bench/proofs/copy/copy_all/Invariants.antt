use Rattle.std.proofs.Common.{◌≤◌, vec_capacity}
use Rattle.r10_bench.proofs.copy.copy_all.Given as goal

abbrev pub invariant-loop-timed : goal.invariant-loop-timed
invariant-loop-timed l = vec_capacity l.fn.copied ≤ vec_capacity l.copied
