use Rattle.r10_packetout.proofs.Closing.{closed_says}
use Rattle.r10_packetout.proofs.laws.closed_files_say.Goals as goal

pub returns : goal.returns
returns c = closed_says
