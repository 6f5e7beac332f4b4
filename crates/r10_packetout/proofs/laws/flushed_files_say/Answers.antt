use Rattle.r10_packetout.proofs.Carrying.{flushed_says}
use Rattle.r10_packetout.proofs.laws.flushed_files_say.Goals as goal

pub returns : goal.returns
returns c = flushed_says
