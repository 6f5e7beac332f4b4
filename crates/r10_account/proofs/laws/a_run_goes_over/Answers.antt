use Rattle.r10_account.proofs.Accounts.{run_goes_over}
use Rattle.r10_account.proofs.laws.a_run_goes_over.Goals as goal

pub returns : goal.returns
returns c = run_goes_over c.a_step_stays_sound.ensures
