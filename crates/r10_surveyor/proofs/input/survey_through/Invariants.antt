use Rattle.std.proofs.Common.{ℕ, List, ◌<◌, ◌≤◌, ◌^◌, ◌-◌, length}
use Rattle.std.specs.Io.KnownBytes.{Consumes}
use Rattle.r10_survey.specs.Surveys.{HasTaken}
use Rattle.r10_surveyor.proofs.input.survey_through.Given as goal

-- what the reader has given is what the survey has
abbrev pub invariant-loop-calls : goal.invariant-loop-calls
invariant-loop-calls g l = record {
  fed : List ℕ;
  given : Consumes (g.R.Read.remaining l.fn.reader) (g.R.Read.remaining l.reader) fed;
  taken : HasTaken l.survey fed;
  room : 0 < length l.piece;
  within : l.calls ≤ 2 ^ 48;
}

abbrev pub decreases-loop-calls : goal.decreases-loop-calls
decreases-loop-calls g l = 2 ^ 48 - l.calls
