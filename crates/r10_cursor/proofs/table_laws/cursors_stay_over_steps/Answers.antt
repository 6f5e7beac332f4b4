use Rattle.r10_cursor.proofs.Stepping.{stays}
use Rattle.r10_cursor.proofs.table_laws.cursors_stay_over_steps.Goals as goal

pub returns : goal.returns
returns c = stays
