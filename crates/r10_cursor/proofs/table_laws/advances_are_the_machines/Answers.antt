use Rattle.r10_cursor.proofs.Slots.{advances}
use Rattle.r10_cursor.proofs.table_laws.advances_are_the_machines.Goals as goal

pub returns : goal.returns
returns c = advances
