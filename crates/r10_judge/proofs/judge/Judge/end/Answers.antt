use Rattle.std.proofs.Common.{◌∙◌, sym}
use Rattle.r10_judge.proofs.Judging.{at_some}
use Rattle.r10_judge.proofs.Ending.{broken_at_fault}
use Rattle.r10_judge.proofs.judge.Judge.end.Goals as goal

pub returns-in-Some : goal.returns-in-Some
returns-in-Some c = λ bytes stands.
    broken_at_fault c.args.self.now.closed c.in-Some.at bytes (at_some c.args.self.now.broken c.in-Some.at c.args.self.now.closed c.args.self.now.tracks bytes (sym c.first_broken.ensures ∙ c.in-Some.is) stands)
