use Rattle.r10_session.proofs.OrdersInTurn.{AnsweredTo}
use Rattle.r10_session.proofs.beginning.ask_all.Given as goal

-- the orders so far were answered
abbrev pub invariant-loop-place : goal.invariant-loop-place
invariant-loop-place g l = AnsweredTo g.M.BlockMedium.disk l.initial.held l.fn.orders l.place l.replies.items l.held
