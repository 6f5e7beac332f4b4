use Rattle.r10_openfile.proofs.Fitting.{pumps_in}
use Rattle.r10_openfile.proofs.pump_laws.pumps_are_steps.Goals as goal

pub returns : goal.returns
returns c = pumps_in
