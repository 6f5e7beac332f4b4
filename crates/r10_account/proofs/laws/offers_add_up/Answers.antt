use Rattle.r10_account.proofs.Adding.{offers_add}
use Rattle.r10_account.proofs.laws.offers_add_up.Goals as goal

pub returns : goal.returns
returns c = offers_add
