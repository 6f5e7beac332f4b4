use Rattle.std.proofs.Common.{◌≡◌, ◌≤◌, length}
use Rattle.std.specs.Prelude.{vec_capacity}
use Rattle.r10_control.proofs.Exhausted.{AreSpent}
use Rattle.r10_control.proofs.parting.all_spent.Given as goal

abbrev pub invariant-loop-at : goal.invariant-loop-at
invariant-loop-at g l = record {
  room : length l.lanes ≤ vec_capacity l.spent;
  number : length l.spent.items ≡ l.at;
  far : AreSpent g.L.LaneOut.spec_of g.L.LaneOut.reached l.lanes l.at l.spent.items;
}
