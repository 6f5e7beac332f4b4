use Rattle.r10_packetout.proofs.Events.{sample_plain}
use Rattle.r10_packetout.proofs.laws.samples_are_no_events.Goals as goal

pub returns : goal.returns
returns c = sample_plain
