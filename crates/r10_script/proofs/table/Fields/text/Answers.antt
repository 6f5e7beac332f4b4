use Rattle.std.proofs.Common.{sym}
use Rattle.r10_script.proofs.table.Fields.text.Goals as goal

pub returns-in-Some : goal.returns-in-Some
returns-in-Some c = rw (c.in_ok-value.ensures.found) (sym c.in-Some.ensures)
