use Rattle.std.proofs.Common.{◌≡◌, map, take}
use Rattle.r10_session.proofs.reports.feed_ends.Given as goal
use Rattle.r10_session.specs.Feeds.{feed_end}

-- the ends of the reports so far
abbrev pub invariant-loop-report : goal.invariant-loop-report
invariant-loop-report l = l.ends.items ≡ map feed_end (take l.report-index l.reports)
