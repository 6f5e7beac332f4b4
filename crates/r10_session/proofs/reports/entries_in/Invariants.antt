use Rattle.std.proofs.Common.{◌≡◌, take}
use Rattle.r10_session.proofs.reports.entries_in.Given as goal
use Rattle.r10_session.specs.Counting.{entries_in}

-- the entries of the instalments so far
abbrev pub invariant-loop-instalment : goal.invariant-loop-instalment
invariant-loop-instalment l = l.entries ≡ entries_in (take l.instalment-index l.transcript.instalments.items)
