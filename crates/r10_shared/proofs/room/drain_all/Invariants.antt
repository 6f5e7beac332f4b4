use Rattle.r10_shared.specs.Settling.{Drains, receiving_of}
use Rattle.r10_shared.proofs.Draining.{DrainedTo}
use Rattle.r10_shared.proofs.room.drain_all.Given as goal

-- the reports up to this place have what was left, and the others wait
abbrev pub invariant-loop-place : goal.invariant-loop-place
invariant-loop-place g l =
    DrainedTo (λ feed. feed.line.channel) (λ report. report.channel) receiving_of (λ lane feed old new. Drains lane feed.line.port old new) l.initial.outlets.items l.initial.feeds.items l.initial.reports.items l.place l.outlets.items l.feeds.items l.reports.items
