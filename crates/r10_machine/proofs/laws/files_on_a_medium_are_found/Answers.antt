use Rattle.r10_machine.proofs.Listing.{files_found}
use Rattle.r10_machine.proofs.laws.files_on_a_medium_are_found.Goals as goal

pub returns : goal.returns
returns c = files_found
