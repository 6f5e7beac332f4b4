use Rattle.std.proofs.Common.{refl}
use Rattle.r10_calls.proofs.OneEvent.{refused}
use Rattle.r10_calls.proofs.desk.Desk.offer_1553.Goals as goal

pub returns-in_default-clause-does : goal.returns-in_default-clause-does
returns-in_default-clause-does g c = refused g.M.BlockMedium.disk c.args.self.now _ _ refl
