-- Civil times as text.
use Rattle.std.specs.Prelude.{ℕ, List, [], ◌∷◌, ◌++◌, ◌+◌, ◌/◌, ◌%◌}
use Rattle.r10_count.specs.declared.civil.Parts.{Parts}

-- a number below 100 in two decimal digits
abbrev pub two_digits : ℕ → List ℕ
two_digits n = (48 + n / 10) ∷ (48 + n % 10) ∷ []

-- YYYY-MM-DD hh:mm:ss.cc
abbrev pub civil_text : Parts → List ℕ
civil_text p =
    two_digits (p.year / 100) ++ (two_digits (p.year % 100)
    ++ (45 ∷ two_digits p.month ++ (45 ∷ two_digits p.day
    ++ (32 ∷ two_digits p.hour ++ (58 ∷ two_digits p.minute
    ++ (58 ∷ two_digits p.second ++ (46 ∷ two_digits p.centi)))))))
