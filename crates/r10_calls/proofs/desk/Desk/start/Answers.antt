use Rattle.std.proofs.Common.{refl}
use Rattle.r10_calls.proofs.OneEvent.{refused}
use Rattle.r10_calls.proofs.desk.Desk.start.Goals as goal

pub returns-in_default-clause-does : goal.returns-in_default-clause-does
returns-in_default-clause-does g c = refused g.M.BlockMedium.disk c.args.self.now _ _ refl

pub returns-in_default-from_slice-clause-does : goal.returns-in_default-from_slice-clause-does
returns-in_default-from_slice-clause-does g c = refused g.M.BlockMedium.disk c.args.self.now _ _ refl
