use Rattle.r10_dirchain.proofs.FileLists.{files-added, files-updated, files-with_shutdown}
use Rattle.r10_dirchain.proofs.laws.file_lists.Goals as goal

pub returns-clause-added : goal.returns-clause-added
returns-clause-added c = files-added

pub returns-clause-updated : goal.returns-clause-updated
returns-clause-updated c = files-updated

pub returns-clause-shutdown : goal.returns-clause-shutdown
returns-clause-shutdown c = files-with_shutdown
