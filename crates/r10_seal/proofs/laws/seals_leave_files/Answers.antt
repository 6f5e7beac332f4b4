use Rattle.r10_seal.proofs.Held.{files_closed, files_left}
use Rattle.r10_seal.proofs.laws.seals_leave_files.Goals as goal

pub returns-clause-left : goal.returns-clause-left
returns-clause-left c = files_left

pub returns-clause-closed : goal.returns-clause-closed
returns-clause-closed c = files_closed
