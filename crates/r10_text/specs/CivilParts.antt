-- Civil times that have a text.
use Rattle.std.specs.Prelude.{ℕ, List, ◌∷◌, ◌++◌, ◌<◌, ◌/◌, ◌%◌}
use Rattle.r10_count.specs.declared.civil.Parts.{Parts}
use Rattle.r10_text.specs.Civil.{two_digits}

-- YYYY-MM-DD, and what stands after it
abbrev pub date_text : ℕ → ℕ → ℕ → List ℕ → List ℕ
date_text year month day rest =
    two_digits (year / 100) ++ (two_digits (year % 100) ++ (45 ∷ two_digits month ++ (45 ∷ two_digits day ++ rest)))

-- the parts that have a text: four digits of the year, two of each other part
pub record HasText (p : Parts) : Type 0 where
  pub year : p.year < 10000
  pub month : p.month < 100
  pub day : p.day < 100
  pub hour : p.hour < 100
  pub minute : p.minute < 100
  pub second : p.second < 100
  pub centi : p.centi < 100
