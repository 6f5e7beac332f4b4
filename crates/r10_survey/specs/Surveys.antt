-- What a survey has of a file.
use Rattle.std.specs.Prelude.{◌≡◌, ℕ, ◌+◌, Bool, false, true, List, [], ◌++◌, length}
use Rattle.r10_survey.specs.Parts.{Part, AreParts, packets_of}
use Rattle.r10_survey.specs.Counts.{AreCounts}
use Rattle.r10_survey.specs.Damage.{IsDamage, KeepsStretches, stretches_of}
use Rattle.r10_survey.specs.declared.track.Track.{Track}
use Rattle.r10_survey.specs.declared.survey.Survey.{Survey}
use Rattle.r10_survey.specs.declared.survey.Report.{Report}

-- whatever comes after these bytes, unless they are the last ones, they are parts up to the rest that is not taken yet, and
-- this is what the parts come to
pub record IsTaken (t : Track) (bytes rest : List ℕ) (last : Bool) : Type 0 where
  pub parts : List Part
  pub are : (later : List ℕ) → (last ≡ true → later ≡ []) → AreParts parts (bytes ++ later) (rest ++ later)
  pub offset : t.offset + length rest ≡ length bytes
  pub counts : AreCounts t.counts.known (packets_of parts)
  pub damage : IsDamage t.damage t.offset parts

-- these bytes were given so far
abbrev pub HasTaken : Survey → List ℕ → Type 0
HasTaken s bytes = IsTaken s.track bytes s.pending.items false

-- this is what the whole file comes to
pub record IsReport (file : List ℕ) (r : Report) : Type 0 where
  pub parts : List Part
  pub are : AreParts parts file []
  pub size : r.bytes ≡ length file
  pub counts : AreCounts r.counts.known (packets_of parts)
  pub stretches : KeepsStretches r.damage (stretches_of parts)
