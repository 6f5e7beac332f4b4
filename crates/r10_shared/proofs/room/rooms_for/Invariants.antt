use Rattle.std.proofs.Common.{◌≡◌, length}
use Rattle.std.specs.Prelude.{vec_capacity}
use Rattle.r10_shared.specs.Settling.{ReportsAreApart, IsReportReady}
use Rattle.r10_shared.proofs.Matching.{MatchedTo}
use Rattle.r10_shared.proofs.room.rooms_for.Given as goal

-- the feeds so far have room, each of another channel
abbrev pub invariant-loop-place : goal.invariant-loop-place
invariant-loop-place g l = record {
  matched : MatchedTo (λ feed report. IsReportReady g.N.Rings.rings l.fn.held.recorder.kept feed.line feed.tally report) l.fn.feeds l.place l.reports.items;
  apart : ReportsAreApart l.reports.items;
  room : vec_capacity l.reports ≡ length l.fn.feeds;
}
