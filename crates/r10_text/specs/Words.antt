-- Words of a line.
use Rattle.std.specs.Prelude.{ℕ, List, [], ◌∷◌, ◌++◌, codes}

-- words with a space between each and the next
abbrev pub spaced : List (List ℕ) → List ℕ
spaced [] = []
spaced (word ∷ []) = word
spaced (word ∷ next ∷ words) = word ++ (32 ∷ spaced (next ∷ words))

-- the words on a line of their own
abbrev pub line_of : List (List ℕ) → List ℕ
line_of [] = codes "\n"
line_of (word ∷ []) = word ++ codes "\n"
line_of (word ∷ next ∷ words) = word ++ (32 ∷ line_of (next ∷ words))
