-- What a file is under its directory entry.
use Rattle.std.specs.Prelude.{ℕ, Bool, List}
use Rattle.r10_body.specs.Faults.{IsAtFault}
use Rattle.r10_judge.specs.Judged.{TracksStrictFile}
use Rattle.r10_judge.specs.declared.judgement.Judgement.{Judgement}
use Rattle.r10_judge.specs.declared.judgement.Judgement.TheVariants.{Strict, Faulty}

-- a strict file with this closing, whose packets these tracks are of; or one with this first fault
abbrev pub IsJudged : List ℕ → Bool → Judgement → Type 0
IsJudged bytes closed (Strict tracks) = TracksStrictFile closed tracks bytes
IsJudged bytes closed (Faulty at) = IsAtFault bytes closed at.offset at.fault
