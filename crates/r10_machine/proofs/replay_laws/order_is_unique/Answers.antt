use Rattle.r10_machine.proofs.Order.{order-unique}
use Rattle.r10_machine.proofs.replay_laws.order_is_unique.Goals as goal

pub returns : goal.returns
returns c = order-unique
