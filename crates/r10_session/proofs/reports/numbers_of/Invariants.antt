use Rattle.std.proofs.Common.{◌≡◌, map, take}
use Rattle.r10_session.proofs.reports.numbers_of.Given as goal
use Rattle.r10_session.specs.Counting.{entries_in}

-- the numbers of the transcripts so far
abbrev pub invariant-loop-transcript : goal.invariant-loop-transcript
invariant-loop-transcript l = l.numbers.items ≡ map (λ transcript. entries_in transcript.instalments.items) (take l.transcript-index l.transcripts)
