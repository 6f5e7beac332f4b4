use Rattle.std.proofs.Common.{◌≡◌, length}
use Rattle.std.specs.Prelude.{vec_capacity}
use Rattle.r10_shared.specs.Settling.{IsTranscriptOf}
use Rattle.r10_shared.proofs.Matching.{MatchedTo}
use Rattle.r10_shared.proofs.room.transcripts_for.Given as goal

-- the players so far have each a transcript
abbrev pub invariant-loop-place : goal.invariant-loop-place
invariant-loop-place l = record {
  matched : MatchedTo IsTranscriptOf l.fn.readings l.place l.transcripts.items;
  room : vec_capacity l.transcripts ≡ length l.fn.readings;
}
