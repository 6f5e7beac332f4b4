use Rattle.std.proofs.Common.{◌≡◌, ℕ, List, length, subst}
use Rattle.r10_body.specs.Faults.{IsAtFault}
use Rattle.r10_judge.specs.Judged.{TracksStrictFile}
use Rattle.r10_judge.specs.Walks.{EndsWithFault}
use Rattle.r10_judge.proofs.PartsOfBytes.{all_taken}
use Rattle.r10_judge.proofs.judgement.judgement_of.Goals as goal

pub returns-in-Ok : goal.returns-in-Ok
returns-in-Ok c = λ bytes walked.
    let none : length walked.rest ≡ 0 = subst (λ o. EndsWithFault o walked.rest) c.in-None.is walked.ends in
    subst (λ (l : List ℕ). TracksStrictFile c.args.walked.walk.judge.closed c.in-Ok.tracks l) (all_taken bytes walked.before walked.rest walked.bytes_are none)
    (c.in-Ok.ensures walked.before walked.stands.judged)

pub returns-in-Err : goal.returns-in-Err
returns-in-Err c = λ bytes walked.
    let none : length walked.rest ≡ 0 = subst (λ o. EndsWithFault o walked.rest) c.in-None.is walked.ends in
    subst (λ (l : List ℕ). IsAtFault l c.args.walked.walk.judge.closed c.in-Err.at.offset c.in-Err.at.fault) (all_taken bytes walked.before walked.rest walked.bytes_are none)
    (c.in-Err.ensures walked.before walked.stands.judged)
