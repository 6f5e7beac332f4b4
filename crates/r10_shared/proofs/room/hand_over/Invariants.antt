use Rattle.r10_shared.proofs.Matching.{DoneTo}
use Rattle.r10_shared.proofs.Moved.{HasWritten}
use Rattle.r10_shared.proofs.room.hand_over.Given as goal

-- the transcripts so far have what was written, and the others wait
abbrev pub invariant-loop-place : goal.invariant-loop-place
invariant-loop-place l = DoneTo HasWritten l.initial.readings.items l.initial.transcripts.items l.place l.readings.items l.transcripts.items
