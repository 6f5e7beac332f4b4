use Rattle.std.proofs.Common.{◌≡◌, drop, map}
use Rattle.r10_count.specs.Checks.{first_broken}
use Rattle.r10_dirchain.specs.Mount.{closed_rules, closed_rule}
use Rattle.r10_dirchain.proofs.check.unclosed_file.Given as goal

abbrev pub invariant-loop-file : goal.invariant-loop-file
invariant-loop-file l = first_broken (closed_rules l.fn.files) ≡ first_broken (map closed_rule (drop l.file-index l.file-items))
