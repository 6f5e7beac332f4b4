use Rattle.std.proofs.Common.{◌≡◌, ◌≤◌, length}
use Rattle.std.specs.Prelude.{vec_capacity}
use Rattle.r10_control.proofs.LooksAtLanes.{Further}
use Rattle.r10_control.proofs.status.lanes_in.Given as goal

abbrev pub invariant-loop-at : goal.invariant-loop-at
invariant-loop-at g l = record {
  long : length l.lanes.items ≡ length l.initial.lanes.items;
  room : length l.initial.lanes.items ≤ vec_capacity l.reported;
  number : length l.reported.items ≡ l.at;
  far : Further g.L.LaneOut.took g.L.LaneOut.quiet g.L.LaneOut.spec_of l.mode l.initial.lanes.items l.lanes.items l.erased l.reported.items l.at;
}
