use Rattle.std.proofs.Common.{◌≡◌, ◌++◌, map}
use Rattle.std.specs.List.{All}
use Rattle.r10_session.proofs.readers.players_of.Given as goal

-- the players so far, at the cabinet's gauge, and the cursors that are left
abbrev pub invariant-loop-cursor : goal.invariant-loop-cursor
invariant-loop-cursor g l = record {
  here : l.pass.cell ≡ l.fn.cabinet.gauge;
  passes : All (λ player. player.pass.cell ≡ l.fn.cabinet.gauge) l.players.items;
  done : map (λ player. player.cursor) l.players.items ++ l.cursor-iterator.rest.items ≡ l.fn.cursors.items;
}
