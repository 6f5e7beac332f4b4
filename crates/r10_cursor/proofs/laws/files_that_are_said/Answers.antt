use Rattle.r10_cursor.proofs.Said.{not_at_fault, found_held, own_held, written_held}
use Rattle.r10_cursor.proofs.laws.files_that_are_said.Goals as goal

pub returns-clause-sound : goal.returns-clause-sound
returns-clause-sound c = not_at_fault

pub returns-clause-found : goal.returns-clause-found
returns-clause-found c = found_held

pub returns-clause-own : goal.returns-clause-own
returns-clause-own c = own_held

pub returns-clause-written : goal.returns-clause-written
returns-clause-written c = written_held
