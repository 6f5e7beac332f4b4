use Rattle.r10_shared.proofs.Stepping.{steps_wait}
use Rattle.r10_shared.proofs.writing.step.Goals as goal

pub returns-in-Idle : goal.returns-in-Idle
returns-in-Idle g c = steps_wait g.W.Writing.asked g.met.W.Writing.joins _ _ _ c.writer_turn.result c.wait_for_more.result c.writer_turn.ensures c.in-Idle.is c.wait_for_more.ensures
