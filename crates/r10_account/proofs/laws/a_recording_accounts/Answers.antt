use Rattle.r10_account.proofs.Accounts.{recording_accounts}
use Rattle.r10_account.proofs.laws.a_recording_accounts.Goals as goal

pub returns : goal.returns
returns c = recording_accounts c.a_step_stays_sound.ensures c.a_new_recorder_is_sound.ensures
