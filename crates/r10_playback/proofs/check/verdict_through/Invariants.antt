use Rattle.std.proofs.Common.{ℕ, List, ◌<◌, ◌≤◌, ◌^◌, ◌-◌, length}
use Rattle.std.specs.Io.KnownBytes.{Consumes}
use Rattle.r10_windowcheck.specs.Given.{WasGivenAll}
use Rattle.r10_playback.proofs.check.verdict_through.Given as goal

-- what the reader has given is what the check was given, and it was called no more often than it may be
abbrev pub invariant-loop-calls : goal.invariant-loop-calls
invariant-loop-calls g l = record {
  fed : List ℕ;
  given : Consumes (g.R.Read.remaining l.fn.reader) (g.R.Read.remaining l.reader) fed;
  taken : WasGivenAll l.check fed;
  room : 0 < length l.piece;
  within : l.calls ≤ 2 ^ 34;
}

abbrev pub decreases-loop-calls : goal.decreases-loop-calls
decreases-loop-calls g l = 2 ^ 34 - l.calls
