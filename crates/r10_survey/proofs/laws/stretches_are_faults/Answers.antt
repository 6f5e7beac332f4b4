use Rattle.r10_survey.proofs.Verdicts.{lenient, faulty}
use Rattle.r10_survey.proofs.laws.stretches_are_faults.Goals as goal

pub returns-clause-lenient : goal.returns-clause-lenient
returns-clause-lenient c = λ file parts are none some. lenient file parts are none some

pub returns-clause-faulty : goal.returns-clause-faulty
returns-clause-faulty c = λ file parts first more are is. faulty file parts first more are is
