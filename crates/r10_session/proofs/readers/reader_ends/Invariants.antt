use Rattle.std.proofs.Common.{◌≡◌, ◌≤◌, ◌++◌, drop}
use Rattle.r10_session.specs.Readers.{fill}
use Rattle.r10_session.proofs.readers.reader_ends.Given as goal

-- the ends so far, and after them those that are left
abbrev pub invariant-loop-place : goal.invariant-loop-place
invariant-loop-place l = record {
  done : l.ends.items ++ fill (drop l.place l.fn.refused) (drop l.next l.fn.numbers) ≡ fill l.fn.refused l.fn.numbers;
  few : l.next ≤ l.place;
}
