use Rattle.r10_machine.proofs.Newness.{new_is_sound}
use Rattle.r10_machine.proofs.laws.a_new_recorder_is_sound.Goals as goal

pub returns : goal.returns
returns c = new_is_sound
