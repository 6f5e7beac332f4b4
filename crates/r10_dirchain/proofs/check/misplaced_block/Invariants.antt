use Rattle.std.proofs.Common.{◌≡◌, ◌+◌, drop}
use Rattle.r10_count.specs.Checks.{first_broken}
use Rattle.r10_dirchain.specs.Mount.{place_rules}
use Rattle.r10_dirchain.proofs.check.misplaced_block.Given as goal

abbrev pub invariant-loop-i : goal.invariant-loop-i
invariant-loop-i l = first_broken (place_rules l.fn.reserved 1 l.chain) ≡ first_broken (place_rules l.fn.reserved (l.i + 1) (drop l.i l.chain))
