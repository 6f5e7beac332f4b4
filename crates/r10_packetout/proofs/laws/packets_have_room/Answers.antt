use Rattle.r10_packetout.proofs.Closing.{index_covered}
use Rattle.r10_packetout.proofs.Room.{event_fits, handed_fits, time_fits}
use Rattle.r10_packetout.proofs.laws.packets_have_room.Goals as goal

pub returns : goal.returns
returns c = record { index = index_covered; handed = handed_fits; time = time_fits; event = event_fits }
