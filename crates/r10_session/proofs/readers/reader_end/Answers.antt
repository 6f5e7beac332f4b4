use Rattle.r10_session.proofs.Filling.{a_number}
use Rattle.r10_session.proofs.readers.reader_end.Goals as goal

pub returns-in-None-clause-end : goal.returns-in-None-clause-end
returns-in-None-clause-end c others = rw c.in-None.is (a_number others c.args.numbers.now c.args.next c.number_at.result c.number_at.ensures)
