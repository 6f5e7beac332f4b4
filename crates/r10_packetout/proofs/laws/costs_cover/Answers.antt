use Rattle.r10_packetout.proofs.Carrying.{covered}
use Rattle.r10_packetout.proofs.laws.costs_cover.Goals as goal

pub returns : goal.returns
returns c = covered
