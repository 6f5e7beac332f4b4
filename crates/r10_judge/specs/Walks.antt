-- How far a file is walked.
use Rattle.std.specs.Prelude.{◌≡◌, ℕ, ◌<◌, Bool, List, ◌++◌, length, drop, Option, Some, None, IfSome}
use Rattle.r10_body.specs.Faults.{HasFault}
use Rattle.r10_body.specs.declared.fault.FileFault.{FileFault}
use Rattle.r10_packet_rules.specs.Tracks.{TracksForeign}
use Rattle.r10_file_rules.specs.declared.tracks.Tracks.{Tracks}
use Rattle.r10_judge.specs.Judged.{TellsAnswer, TracksJudged}
use Rattle.r10_judge.specs.declared.walk.Walk.{Walk}
use Rattle.r10_judge.specs.declared.window.Walked.{Walked}

-- the bytes so far are packets of any recorder, none or more, and they are judged
pub record TracksWalked (walk : Walk) (bytes : List ℕ) : Type 0 where
  pub foreign : TracksForeign walk.track bytes
  pub judged : TracksJudged walk.judge bytes

-- what is left has this fault, or nothing is left
abbrev pub EndsWithFault : Option FileFault → List ℕ → Type 0
EndsWithFault None rest = length rest ≡ 0
EndsWithFault (Some fault) rest = (0 < length rest) × HasFault rest fault

-- what stands at an offset has this fault
abbrev pub EndsAt : List ℕ → ℕ → FileFault → Type 0
EndsAt bytes offset fault = EndsWithFault (Some fault) (drop offset bytes)

-- what stands at an offset has this fault, and it is reported whether it answers the report that stands last
pub record IsFaultTold (bytes : List ℕ) (offset : ℕ) (reported : Bool) (tracks : Tracks) (fault : FileFault) : Type 0 where
  pub ends : EndsAt bytes offset fault
  pub answered : TellsAnswer reported tracks (drop offset bytes)

-- the file is walked up to its end, or up to what is no packet of any recorder
pub record IsWalked (bytes : List ℕ) (walked : Walked) : Type 0 where
  pub before : List ℕ
  pub rest : List ℕ
  pub bytes_are : bytes ≡ before ++ rest
  pub stands : TracksWalked walked.walk before
  pub ends : EndsWithFault walked.fault rest
  pub answered : IfSome walked.fault (λ _. TellsAnswer walked.answered walked.walk.judge.tracks rest)
