use Rattle.std.proofs.Common.{◌∙◌, ◌++◌, sym}
use Rattle.r10_judge.specs.Judged.{KeepsRulesSoFar}
use Rattle.r10_judge.proofs.Judging.{at_none, at_some, breaks_on}
use Rattle.r10_judge.proofs.Ending.{broken_at_fault}
use Rattle.r10_judge.proofs.judge.Judge.fault_behind.Goals as goal

pub returns-in-Some : goal.returns-in-Some
returns-in-Some c = λ before rest stands some has tells.
    let closed = c.args.self.now.closed in
    broken_at_fault closed c.in-Some.at (before ++ rest)
    (breaks_on closed c.in-Some.at before rest (at_some c.args.self.now.broken c.in-Some.at closed c.args.self.now.tracks before (sym c.first_broken.ensures ∙ c.in-Some.is) stands))

pub returns-in-None : goal.returns-in-None
returns-in-None c = λ before rest stands some has tells.
    let closed = c.args.self.now.closed in
    let goes : KeepsRulesSoFar closed c.args.self.now.tracks before = at_none c.args.self.now.broken closed c.args.self.now.tracks before (sym c.first_broken.ensures ∙ c.in-None.is) stands in
    c.next_fault.ensures before rest goes some has tells
