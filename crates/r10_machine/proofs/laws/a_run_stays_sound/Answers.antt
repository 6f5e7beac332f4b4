use Rattle.r10_machine.proofs.Steps.{run_sound}
use Rattle.r10_machine.proofs.laws.a_run_stays_sound.Goals as goal

pub returns : goal.returns
returns c = run_sound
