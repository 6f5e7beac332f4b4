use Rattle.std.proofs.Common.{length, ◌-◌, ◌≡◌, ◌≤◌, ◌++◌, ℕ, List, take}
use Rattle.r10_judge.specs.Walks.{TracksWalked}
use Rattle.r10_windowcheck.proofs.walk.take_packets.Given as goal

abbrev pub invariant-loop-done : goal.invariant-loop-done
invariant-loop-done l = record {
  inside : l.done ≤ length l.bytes;
  walked : (before : List ℕ) → TracksWalked l.fn.walk before → TracksWalked l.walk (before ++ take l.done l.bytes);
  closed : l.walk.judge.closed ≡ l.fn.walk.judge.closed;
}

abbrev pub decreases-loop-done : goal.decreases-loop-done
decreases-loop-done l = length l.bytes - l.done
