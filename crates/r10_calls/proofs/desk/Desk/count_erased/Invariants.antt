use Rattle.std.proofs.Common.{◌≡◌, ◌++◌, drop, map, take}
use Rattle.r10_calls.specs.Losses.{lost_with_erased}
use Rattle.r10_calls.proofs.desk.Desk.count_erased.Given as goal

-- what is counted of the channels so far is changed
abbrev pub invariant-loop-at : goal.invariant-loop-at
invariant-loop-at g l = l.accepted.items ≡ map (lost_with_erased l.self.world.recorder.lanes) (take l.at l.initial.accepted.items) ++ drop l.at l.initial.accepted.items
