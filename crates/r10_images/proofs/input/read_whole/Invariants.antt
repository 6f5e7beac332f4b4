use Rattle.std.proofs.Common.{◌≤◌, ◌^◌, ◌-◌}
use Rattle.std.specs.Io.KnownBytes.{Consumes}
use Rattle.r10_images.proofs.input.read_whole.Given as goal

-- what the reader has given is what was added, and it was called no more often than it may be
abbrev pub invariant-loop-calls : goal.invariant-loop-calls
invariant-loop-calls g l = record {
  given : Consumes (g.R.Read.remaining l.fn.reader) (g.R.Read.remaining l.reader) l.all.items;
  within : l.calls ≤ 2 ^ 34;
}

abbrev pub decreases-loop-calls : goal.decreases-loop-calls
decreases-loop-calls g l = 2 ^ 34 - l.calls
