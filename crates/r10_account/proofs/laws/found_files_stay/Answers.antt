use Rattle.r10_account.proofs.Staying.{found_stay}
use Rattle.r10_account.proofs.laws.found_files_stay.Goals as goal

pub returns : goal.returns
returns c = found_stay c.a_step_stays_sound.ensures c.a_new_recorder_is_sound.ensures
