use Rattle.r10_packetout.proofs.Carrying.{packets_carried}
use Rattle.r10_packetout.proofs.laws.packets_are_carried.Goals as goal

pub returns : goal.returns
returns c = packets_carried
