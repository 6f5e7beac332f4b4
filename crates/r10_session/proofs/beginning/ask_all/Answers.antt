use Rattle.std.proofs.Common.{arith}
use Rattle.r10_session.proofs.OrdersInTurn.{all_asked, none_asked, one_asked}
use Rattle.r10_session.proofs.beginning.ask_all.Goals as goal

pub loop-place-init : goal.loop-place-init
loop-place-init g c = none_asked g.M.BlockMedium.disk _ _ _ c.new-replies.ensures.items

pub loop-place-preserved : goal.loop-place-preserved
loop-place-preserved g c =
    rw c.in_ok-push.ensures.items (one_asked g.M.BlockMedium.disk _ _ c.loop-place.place c.loop-place.replies.items c.loop-place.held c.ask-reply.new.held c.index-orders-place.result c.ask-reply.result c.loop-place.invariant c.loop-place-test.true c.index-orders-place.is c.ask-reply.ensures)

pub returns : goal.returns
returns g c = all_asked g.M.BlockMedium.disk _ _ c.loop-place.place _ _ c.loop-place.invariant c.loop-place-test.false
