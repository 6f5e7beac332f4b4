use Rattle.r10_packetout.proofs.Own.{times_carried}
use Rattle.r10_packetout.proofs.laws.times_are_carried.Goals as goal

pub returns : goal.returns
returns c = times_carried
