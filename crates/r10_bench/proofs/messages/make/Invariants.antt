use Rattle.std.proofs.Common.{◌≡◌, length}
use Rattle.r10_bench.proofs.messages.make.Given as goal

abbrev pub invariant-loop-number : goal.invariant-loop-number
invariant-loop-number l = length l.messages.items ≡ length l.yielded
