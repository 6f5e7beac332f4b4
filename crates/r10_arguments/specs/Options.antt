-- The options that stand among words, and what they give.
use Rattle.std.specs.Prelude.{◌≡◌, ◌⊎◌, ℕ, Bool, if◌then◌else◌, List, [], ◌∷◌, ◌++◌, drop, map}
use Rattle.std.specs.Fmt.{decimal}
use Rattle.std.specs.List.{All, Contains, filter, flat_map}
use Rattle.std.specs.Str.{bytes_eq}

-- an option and its value: joined in one word with `=` between them, or in two words in a row
pub record OptionWords : Type 0 where
  pub option : List ℕ
  pub value : List ℕ
  pub is_joined : Bool

abbrev pub as_words : OptionWords → List (List ℕ)
as_words given = if given.is_joined then (given.option ++ 61 ∷ given.value) ∷ [] else given.option ∷ given.value ∷ []

-- these options, each with its value and each one of those that are known, stand at the front of the words, and the rest after them
pub record BeginsWithOptions (known words : List (List ℕ)) (given : List OptionWords) (rest : List (List ℕ)) : Type 0 where
  pub front : words ≡ flat_map as_words given ++ rest
  pub are_known : All (λ (g : OptionWords). Contains known g.option) given

-- after the program's own name and the command stand these options, each one that the command knows, and nothing else
abbrev pub HasOnlyOptions : List (List ℕ) → List (List ℕ) → List OptionWords → Type 0
HasOnlyOptions known words given = BeginsWithOptions known (drop 2 words) given []

-- all values that are given for an option, in their order
abbrev pub values_of : List ℕ → List OptionWords → List (List ℕ)
values_of option given = map (λ (g : OptionWords). g.value) (filter (λ (g : OptionWords). bytes_eq g.option option) given)

-- an option stands once, with this value
abbrev pub GivesOption : List OptionWords → List ℕ → List ℕ → Type 0
GivesOption given option value = values_of option given ≡ value ∷ []

abbrev pub IsLeftOut : List OptionWords → List ℕ → Type 0
IsLeftOut given option = values_of option given ≡ []

-- an option stands once, with this number in decimal, or is left out where the number goes without saying
abbrev pub GivesOr : List OptionWords → List ℕ → ℕ → ℕ → Type 0
GivesOr given option number otherwise = GivesOption given option (decimal number) ⊎ ((number ≡ otherwise) × IsLeftOut given option)
