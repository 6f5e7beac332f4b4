use Rattle.r10_control.proofs.Owning.{grow_none, stay_failed, stay_same}
use Rattle.r10_control.proofs.own_laws.own_entries_stay.Goals as goal

pub returns-clause-same : goal.returns-clause-same
returns-clause-same c = λ k image. stay_same k image

pub returns-clause-failed : goal.returns-clause-failed
returns-clause-failed c = λ k later old new is. stay_failed k later old new is

pub returns-clause-none : goal.returns-clause-none
returns-clause-none c = λ k image. grow_none k image
