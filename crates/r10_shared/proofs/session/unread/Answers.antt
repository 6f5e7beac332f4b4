use Rattle.std.proofs.Common.{arith, ap, length, ◌≡◌, []}
use Rattle.std.proofs.lemmas.List.Elements.{All-push}
use Rattle.r10_shared.proofs.Written.{players_more}
use Rattle.r10_shared.proofs.session.unread.Goals as goal

pub loop-player-preserved : goal.loop-player-preserved
loop-player-preserved c = record {
  players = rw c.push_reserved.ensures.items (players_more c.loop-player.readings.items _ _ _ _ c.loop-player.invariant.players c.in-Some.ensures.steps.0);
  none = rw c.push_reserved.ensures.items (All-push (λ reading. reading.instalments.items ≡ []) c.loop-player.readings.items _ c.loop-player.invariant.none c.new.ensures.items);
  room = omega (arith, c.push_reserved.ensures.len, c.push_reserved.ensures.capacity, c.loop-player.invariant.room, ap (λ l. length l) c.in-Some.ensures.steps.0);
}
