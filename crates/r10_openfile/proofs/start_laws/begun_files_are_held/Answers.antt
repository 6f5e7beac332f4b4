use Rattle.r10_openfile.proofs.Listing.{begun_holds}
use Rattle.r10_openfile.proofs.start_laws.begun_files_are_held.Goals as goal

pub returns : goal.returns
returns c = λ s old new chain files r f e whole held begun closed few lists turned. begun_holds s old chain files r f e whole held begun closed few lists new turned
