use Rattle.r10_control.proofs.Writing.{is_shown, is_held, written}
use Rattle.r10_control.proofs.written_laws.what_is_written_is_shown.Goals as goal

pub returns-clause-writing : goal.returns-clause-writing
returns-clause-writing c = is_shown

pub returns-clause-held : goal.returns-clause-held
returns-clause-held c = is_held

pub returns-clause-covered : goal.returns-clause-covered
returns-clause-covered c = written
