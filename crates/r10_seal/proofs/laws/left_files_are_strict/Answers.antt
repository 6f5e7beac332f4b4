use Rattle.r10_seal.proofs.LastFile.{fault_left, left_unsealed}
use Rattle.r10_seal.proofs.laws.left_files_are_strict.Goals as goal

pub returns-clause-unsealed : goal.returns-clause-unsealed
returns-clause-unsealed c = left_unsealed

pub returns-clause-fault : goal.returns-clause-fault
returns-clause-fault c = fault_left
