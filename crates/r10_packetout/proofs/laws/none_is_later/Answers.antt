use Rattle.r10_packetout.proofs.Room.{not_later}
use Rattle.r10_packetout.proofs.laws.none_is_later.Goals as goal

pub returns : goal.returns
returns c = not_later
