use Rattle.r10_world.proofs.FreshRecorder.{begins}
use Rattle.r10_world.proofs.laws.a_new_recorder_stands.Goals as goal

pub returns : goal.returns
returns c = begins c.a_new_recorder_is_sound.ensures c.files_on_a_medium_are_found.ensures
