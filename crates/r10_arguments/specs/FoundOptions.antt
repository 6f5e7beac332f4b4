-- An option that was found among words, as a definition has it.
use Rattle.std.specs.Prelude.{◌≡◌, ℕ, List, ◌++◌}
use Rattle.std.specs.List.{Contains}
use Rattle.r10_arguments.specs.Options.{OptionWords, as_words}
use Rattle.r10_arguments.specs.declared.options.FoundOption.{FoundOption}

abbrev pub found_words : FoundOption → OptionWords
found_words found = record { option = found.option.now; value = found.value.now; is_joined = found.is_joined }

-- the option, which is one of those that are known, stands at the front of the words with its value, and the rest after it
pub record IsFrontOption (known words : List (List ℕ)) (found : FoundOption) (rest : List (List ℕ)) : Type 0 where
  pub front : words ≡ as_words (found_words found) ++ rest
  pub is_known : Contains known found.option.now
