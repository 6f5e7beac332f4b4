use Rattle.r10_openfile.proofs.Fitting.{more_asked}
use Rattle.r10_openfile.proofs.pump_laws.pumps_end_alike.Goals as goal

pub returns : goal.returns
returns c = more_asked
