use Rattle.std.proofs.Common.{◌≡◌, drop, map}
use Rattle.r10_count.specs.Checks.{first_broken}
use Rattle.r10_checker.specs.Place.{inside_rule}
use Rattle.r10_checker.proofs.place.first_outside.Given as goal

-- the files so far lie inside
abbrev pub invariant-loop-file : goal.invariant-loop-file
invariant-loop-file l = first_broken (map (inside_rule l.fn.blocks) l.fn.files) ≡ first_broken (map (inside_rule l.blocks) (drop l.file-index l.files))
