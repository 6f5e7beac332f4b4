use Rattle.std.proofs.Common.{◌≡◌, ◌≤◌, ◌+◌, ◌++◌, [], map, length}
use Rattle.std.specs.Prelude.{All, vec_capacity, vec_len}
use Rattle.r10_shared.proofs.session.unread.Given as goal

-- the players so far, and the others after them
abbrev pub invariant-loop-player : goal.invariant-loop-player
invariant-loop-player l = record {
  players : map (λ reading. reading.player) l.readings.items ++ l.player-iterator.rest.items ≡ l.fn.players.items;
  none : All (λ reading. reading.instalments.items ≡ []) l.readings.items;
  room : vec_len l.readings + length l.player-iterator.rest.items ≤ vec_capacity l.readings;
}
