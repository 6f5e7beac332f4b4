use Rattle.r10_openfile.proofs.Fitting.{pump_fails}
use Rattle.r10_openfile.proofs.pump_laws.failed_pumps_take_few.Goals as goal

pub returns : goal.returns
returns c = pump_fails
