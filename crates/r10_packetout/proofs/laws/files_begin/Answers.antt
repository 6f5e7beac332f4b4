use Rattle.r10_packetout.proofs.Begin.{begun_carried}
use Rattle.r10_packetout.proofs.Room.{begun_fits}
use Rattle.r10_packetout.proofs.laws.files_begin.Goals as goal

pub returns : goal.returns
returns c = record { carried = begun_carried; room = begun_fits }
