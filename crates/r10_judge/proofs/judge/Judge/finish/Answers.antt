use Rattle.std.proofs.Common.{◌∙◌, sym}
use Rattle.r10_judge.proofs.Judging.{at_none, at_some}
use Rattle.r10_judge.proofs.Ending.{broken_at_fault}
use Rattle.r10_judge.proofs.judge.Judge.finish.Goals as goal

pub returns-in-Some : goal.returns-in-Some
returns-in-Some c = λ bytes stands.
    let self = c.args.self in
    broken_at_fault self.closed c.in-Some.at bytes (at_some self.broken c.in-Some.at self.closed self.tracks bytes (sym c.first_broken.ensures ∙ c.in-Some.is) stands)

pub returns-in-None : goal.returns-in-None
returns-in-None c = λ bytes stands.
    let self = c.args.self in
    c.finish_packets.ensures bytes (at_none self.broken self.closed self.tracks bytes (sym c.first_broken.ensures ∙ c.in-None.is) stands)
