use Rattle.r10_openfile.proofs.Fitting.{lacks_first}
use Rattle.r10_openfile.proofs.pump_laws.full_pumps_are_refused.Goals as goal

pub returns : goal.returns
returns c = lacks_first
