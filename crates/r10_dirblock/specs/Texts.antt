-- Texts in a directory block: names, dates and times.
use Rattle.std.specs.Prelude.{◌≡◌, ℕ, ◌+◌, ◌-◌, ◌/◌, ◌%◌, Bool, List, [], ◌∷◌, ◌++◌, length, take, replicate, ◌||◌, ◌==◌}
use Rattle.std.specs.List.{suffix_len}
use Rattle.r10_count.specs.declared.civil.Parts.{Parts}

-- a text in a field of n bytes, with zero bytes after it
abbrev pub padded_text : ℕ → List ℕ → List ℕ
padded_text n text = text ++ replicate (n - length text) 0

-- a zero byte or a space
abbrev pub is_padding : ℕ → Bool
is_padding b = b == 0 || b == 0x20

-- a text without the zero bytes and spaces after it
abbrev pub stripped : List ℕ → List ℕ
stripped text = take (length text - suffix_len is_padding text) text

-- no zero byte and no space stands after the text
abbrev pub IsStripped : List ℕ → Type 0
IsStripped text = stripped text ≡ text

-- the two low decimal digits in ASCII
abbrev pub digits : ℕ → List ℕ
digits n = (48 + n / 10 % 10) ∷ (48 + n % 10) ∷ []

-- DDMMYYYY
abbrev pub day_month_year : Parts → List ℕ
day_month_year p = digits p.day ++ digits p.month ++ digits (p.year / 100) ++ digits p.year

-- HHMMSSss
abbrev pub time_text : Parts → List ℕ
time_text p = digits p.hour ++ digits p.minute ++ digits p.second ++ digits p.centi

-- the close time of a file that is not closed
abbrev pub dashes : List ℕ
dashes = replicate 8 0x2D
