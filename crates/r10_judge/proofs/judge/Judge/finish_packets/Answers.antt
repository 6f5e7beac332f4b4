use Rattle.std.proofs.Common.{MatchOption, subst}
use Rattle.r10_body.specs.Faults.{IsAtFault}
use Rattle.r10_judge.specs.Judged.{SaysClosed}
use Rattle.r10_judge.proofs.Finished.{kept_file}
use Rattle.r10_judge.proofs.judge.Judge.finish_packets.Goals as goal

pub returns-in-Some : goal.returns-in-Some
returns-in-Some c = λ bytes goes.
    let closed = c.args.self.closed in
    subst (λ o. MatchOption o (SaysClosed bytes closed) (λ at. IsAtFault bytes closed at.offset at.fault)) c.in-Some.is (c.end_of_packets.ensures bytes goes)

pub returns-in-None : goal.returns-in-None
returns-in-None c = λ bytes goes.
    let closed = c.args.self.closed in
    kept_file closed c.args.self.tracks bytes goes
    (subst (λ o. MatchOption o (SaysClosed bytes closed) (λ at. IsAtFault bytes closed at.offset at.fault)) c.in-None.is (c.end_of_packets.ensures bytes goes))
