use Rattle.r10_account.proofs.Adding.{tell_losses}
use Rattle.r10_account.proofs.laws.files_tell_losses.Goals as goal

pub returns : goal.returns
returns c = λ s channel files failures events replies images new config found most is run works few. tell_losses channel events replies new (c.a_recording_accounts.ensures s channel files failures events replies images new config found most is run) works few
