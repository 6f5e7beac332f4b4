use Rattle.std.proofs.Common.{◌≡◌, ℕ, ◌+◌, ◌-◌, ◌≤◌, ◌++◌, false, List, length, drop}
use Rattle.r10_survey.specs.Surveys.{IsTaken}
use Rattle.r10_survey.proofs.track.Track.walk.Given as goal

abbrev pub invariant-loop-done : goal.invariant-loop-done
invariant-loop-done l = record {
  inside : l.done ≤ length l.bytes;
  offset : l.self.offset ≡ l.fn.self.offset + l.done;
  taken : (before rest window : List ℕ) → IsTaken l.fn.self before rest false → l.bytes ≡ rest ++ window → IsTaken l.self (before ++ window) (drop l.done l.bytes) l.last;
}

abbrev pub decreases-loop-done : goal.decreases-loop-done
decreases-loop-done l = length l.bytes - l.done
