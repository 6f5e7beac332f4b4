use Rattle.r10_machine.proofs.Steps.{step_sound}
use Rattle.r10_machine.proofs.laws.a_step_stays_sound.Goals as goal

pub returns : goal.returns
returns c = step_sound
