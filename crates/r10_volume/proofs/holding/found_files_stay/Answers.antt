use Rattle.r10_volume.proofs.OtherFilesStay.{found_stays}
use Rattle.r10_volume.proofs.holding.found_files_stay.Goals as goal

pub returns : goal.returns
returns c = found_stays
