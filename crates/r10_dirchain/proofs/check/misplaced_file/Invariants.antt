use Rattle.std.proofs.Common.{◌≡◌, ◌≤◌, ◌^◌, drop}
use Rattle.r10_count.specs.Checks.{first_broken}
use Rattle.r10_dirchain.specs.Mount.{stand_rules}
use Rattle.r10_dirchain.proofs.check.misplaced_file.Given as goal

abbrev pub invariant-loop-file : goal.invariant-loop-file
invariant-loop-file l = record {
  limit : l.n ≤ 2 ^ 64;
  rules : first_broken (stand_rules l.fn.blocks l.fn.first l.files) ≡ first_broken (stand_rules l.fn.blocks l.n (drop l.file-index l.files));
}
