use Rattle.r10_account.proofs.Adding.{losses_add}
use Rattle.r10_account.proofs.laws.losses_add_up.Goals as goal

pub returns : goal.returns
returns c = losses_add
