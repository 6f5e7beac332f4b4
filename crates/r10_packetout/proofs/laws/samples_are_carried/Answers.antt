use Rattle.r10_packetout.proofs.Carrying.{samples_carried}
use Rattle.r10_packetout.proofs.laws.samples_are_carried.Goals as goal

pub returns : goal.returns
returns c = samples_carried
