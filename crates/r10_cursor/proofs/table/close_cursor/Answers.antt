use Rattle.r10_cursor.proofs.Slots.{closed}
use Rattle.r10_cursor.proofs.table.close_cursor.Goals as goal

pub returns-clause-closes : goal.returns-clause-closes
returns-clause-closes c = λ image m stand. closed image m c.args.cursors.now c.try_remove.new.self c.args.id stand c.try_remove.ensures.updates
