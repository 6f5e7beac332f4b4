use Rattle.r10_openfile.proofs.Rests.{stop_made}
use Rattle.r10_openfile.proofs.pump_laws.stops_are_whole_steps.Goals as goal

pub returns : goal.returns
returns c = stop_made
