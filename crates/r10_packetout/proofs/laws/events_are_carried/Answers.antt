use Rattle.r10_packetout.proofs.Own.{events_carried, reported}
use Rattle.r10_packetout.proofs.laws.events_are_carried.Goals as goal

pub returns : goal.returns
returns c = record { carried = events_carried; reported = reported }
