use Rattle.r10_windowcheck.proofs.Giving.{faulty_so_far}
use Rattle.r10_windowcheck.proofs.check.WindowCheck.verdict.Goals as goal

pub returns-in-Some : goal.returns-in-Some
returns-in-Some c = λ file given. rw c.faulty.ensures (faulty_so_far c.args.self.now.broken c.in-Some.at c.args.self.now.walk file c.args.self.now.pending.items c.in-Some.is given)
