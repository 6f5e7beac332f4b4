use Rattle.std.proofs.Common.{◌≡◌, ℕ, ◌-◌, ◌≤◌, ◌++◌, List, length, take}
use Rattle.r10_judge.specs.Walks.{TracksWalked}
use Rattle.r10_judge.proofs.walk.Walk.take.Given as goal

abbrev pub invariant-loop-done : goal.invariant-loop-done
invariant-loop-done l = record {
  inside : l.done ≤ length l.bytes;
  stands : (before : List ℕ) → TracksWalked l.fn.self before → TracksWalked l.self (before ++ take l.done l.bytes);
  closed : l.self.judge.closed ≡ l.fn.self.judge.closed;
}

abbrev pub decreases-loop-done : goal.decreases-loop-done
decreases-loop-done l = length l.bytes - l.done
