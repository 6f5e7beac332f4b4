use Rattle.std.proofs.Common.{refl}
use Rattle.r10_shared.proofs.Shows.{pumps_looked}
use Rattle.r10_shared.proofs.Turns.{fed_stopped, fed_whole, shown_join, shown_none, showing_all}
use Rattle.r10_shared.proofs.source.feed_all.Goals as goal

pub loop-init : goal.loop-init
loop-init g c = shown_none _ _ _

pub returns-then-is_asked-clause-fed : goal.returns-then-is_asked-clause-fed
returns-then-is_asked-clause-fed g c = fed_stopped (g.S.Stop.answers c.args.stop.now) _ _ _ _ _ _ (c.loop.invariant.fed, c.loop.invariant.left) refl (rw (c.if-is_asked.true) at c.is_asked.ensures)

pub returns-then-is_asked-clause-shown : goal.returns-then-is_asked-clause-shown
returns-then-is_asked-clause-shown g c = showing_all _ _ _ _ _ _ _ c.loop.invariant

pub loop-preserved : goal.loop-preserved
loop-preserved g c = shown_join _ _ _ _ _ _ _ _ _ _ _ _ _ c.loop.invariant (pumps_looked _ _ _ _ c.show_turn.ensures.same c.show_turn.ensures.no_fewer c.show_turn.ensures.idle _ _ c.pump_source-pumped.ensures) (rw (c.sent-sent.ensures, c.lost-lost.ensures) at c.show_turn.ensures.shows) c.saturating_add-accepted.ensures c.saturating_add-refused.ensures

pub returns-then-pumped-clause-fed : goal.returns-then-pumped-clause-fed
returns-then-pumped-clause-fed g c =
    fed_whole (g.S.Stop.answers c.args.stop.now) 1 _ _ _ _ _ _ _ _ _ _ (c.loop.invariant.fed, c.loop.invariant.left) (pumps_looked _ _ _ _ c.show_turn.ensures.same c.show_turn.ensures.no_fewer c.show_turn.ensures.idle _ _ c.pump_source-pumped.ensures) c.saturating_add-accepted.ensures c.saturating_add-refused.ensures c.if-pumped.true

pub returns-then-pumped-clause-shown : goal.returns-then-pumped-clause-shown
returns-then-pumped-clause-shown g c =
    showing_all _ _ _ _ _ _ _ (shown_join _ _ _ _ _ _ _ _ _ _ _ _ _ c.loop.invariant (pumps_looked _ _ _ _ c.show_turn.ensures.same c.show_turn.ensures.no_fewer c.show_turn.ensures.idle _ _ c.pump_source-pumped.ensures) (rw (c.sent-sent.ensures, c.lost-lost.ensures) at c.show_turn.ensures.shows) c.saturating_add-accepted.ensures c.saturating_add-refused.ensures)
