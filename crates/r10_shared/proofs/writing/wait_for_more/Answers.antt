use Rattle.r10_shared.proofs.Stepping.{waits_moved, waits_over, waits_slept}
use Rattle.r10_shared.proofs.writing.wait_for_more.Goals as goal

pub returns-in-Moved : goal.returns-in-Moved
returns-in-Moved g c = waits_moved g.W.Writing.asked g.met.W.Writing.joins _ _ _ c.writer_turn.result c.announce-wait.ensures c.writer_turn.ensures c.in-Moved.is

pub returns-in-Idle : goal.returns-in-Idle
returns-in-Idle g c = waits_slept g.W.Writing.asked g.met.W.Writing.joins _ _ _ _ c.writer_turn.result c.announce-wait.ensures c.writer_turn.ensures c.in-Idle.is c.sleep.ensures

pub returns-in-Over : goal.returns-in-Over
returns-in-Over g c = waits_over g.W.Writing.asked g.met.W.Writing.joins _ _ _ c.writer_turn.result c.announce-wait.ensures c.writer_turn.ensures c.in-Over.is
