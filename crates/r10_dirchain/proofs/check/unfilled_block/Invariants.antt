use Rattle.std.proofs.Common.{◌≡◌, drop, map}
use Rattle.r10_count.specs.Checks.{first_broken}
use Rattle.r10_dirchain.specs.Mount.{full_rules, full_rule}
use Rattle.r10_dirchain.proofs.check.unfilled_block.Given as goal

abbrev pub invariant-loop-link : goal.invariant-loop-link
invariant-loop-link l = first_broken (full_rules l.fn.chain) ≡ first_broken (map full_rule (drop l.link-index l.link-items))
