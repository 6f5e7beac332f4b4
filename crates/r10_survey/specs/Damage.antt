-- The stretches of bytes that no packet has.
use Rattle.std.specs.Prelude.{◌≡◌, ℕ, ◌+◌, ◌-◌, ◌≤◌, ◌==◌, if◌then◌else◌, List, [], ◌∷◌, ◌++◌, length, take}
use Rattle.r10_survey.specs.Counts.{counted}
use Rattle.r10_survey.specs.Parts.{Part, packet, stray}
use Rattle.r10_survey.specs.declared.damage.Damage.{Damage}
use Rattle.r10_survey.specs.declared.damage.Stretch.{Stretch}

-- the most stretches that are kept
abbrev pub most_stretches : ℕ
most_stretches = 4096

abbrev pub packet_part : List ℕ → Part
packet_part p = packet p

abbrev pub stray_part : ℕ → Part
stray_part b = stray b

-- the stretch of so many bytes that ends at a place; none of no bytes
abbrev pub ended : ℕ → ℕ → List Stretch
ended at lost = if lost == 0 then [] else record { offset = at - lost; length = lost } ∷ []

-- the longest stretches of bytes that no packet has, in order, of a file that has these parts after so many bytes, the last so
-- many of which no packet has
abbrev pub stretches_after : ℕ → ℕ → List Part → List Stretch
stretches_after at lost [] = ended at lost
stretches_after at lost (packet p ∷ parts) = ended at lost ++ stretches_after (at + length p) 0 parts
stretches_after at lost (stray b ∷ parts) = stretches_after (at + 1) (lost + 1) parts

abbrev pub stretches_of : List Part → List Stretch
stretches_of parts = stretches_after 0 0 parts

-- the first of these stretches are kept, and all are counted
pub record KeepsStretches (d : Damage) (all : List Stretch) : Type 0 where
  pub kept : d.kept.items ≡ take most_stretches all
  pub number : d.number ≡ counted (length all)

-- the parts so far have these stretches that ended, and after them so many bytes of one that may go on, up to a place
pub record IsDamage (d : Damage) (at : ℕ) (parts : List Part) : Type 0 where
  pub all : List Stretch
  pub keeps : KeepsStretches d all
  pub within : d.lost ≤ at
  pub goes_on : (more : List Part) → stretches_of (parts ++ more) ≡ all ++ stretches_after at d.lost more
