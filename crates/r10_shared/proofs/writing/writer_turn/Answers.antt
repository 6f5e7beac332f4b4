use Rattle.r10_shared.proofs.Stepping.{turned}
use Rattle.r10_shared.proofs.writing.writer_turn.Goals as goal

pub returns : goal.returns
returns g c = turned g.W.Writing.asked g.met.W.Writing.joins _ _ _ _ c.is_over-last.result c.round-round.result _ c.is_over-last.ensures c.round-round.ensures c.tell_of.ensures c.after.ensures
