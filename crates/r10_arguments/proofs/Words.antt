-- Two words ask for a run, or for a list, exactly where the second says so; and words that give an option its value.
use Rattle.std.proofs.Common.{◌≡◌, ℕ, Bool, IsTrue, map, string_bytes, ◌<◌, ◌≤◌, drop, take, length, ◌-◌, List, [], ◌∷◌, get_or, codes, String, Global, arith, ap, sym, subst, ◌∙◌}
use Rattle.std.proofs.lemmas.List.{get_or-map, length-drop, nil_from_length, take_all}
use Rattle.std.specs.Bool.{Decides}
use Rattle.std.specs.List.{Contains}
use Rattle.r10_arguments.specs.Options.{BeginsWithOptions, OptionWords}
use Rattle.r10_arguments.specs.Words.{AsksCommand, AsksHelpWord, AsksOnly, AsksSim, commands, word_at}

pub second_word : (words : List (String Global)) (word : String Global) (r : Bool) → word ≡ get_or words 1 word → 2 ≤ length words → length words < 3
    → Decides r (string_bytes word ≡ codes "sim") → (IsTrue r → AsksSim (map string_bytes words)) × (AsksSim (map string_bytes words) → IsTrue r)
second_word [] word r is two within decides = absurd (omega (arith, two))
second_word (name ∷ []) word r is two within decides = absurd (omega (arith, two))
second_word (name ∷ other ∷ []) word r is two within decides =
    let same : string_bytes word ≡ string_bytes other = ap string_bytes is in
    (λ yes. sym same ∙ decides.0 yes, λ asks. decides.1 (same ∙ asks))
second_word (name ∷ other ∷ third ∷ words) word r is two within decides = absurd (omega (arith, within))

pub only_word : (words : List (String Global)) (word : String Global) (command : List ℕ) (r : Bool) → word ≡ get_or words 1 word → 2 ≤ length words → length words < 3
    → Decides r (string_bytes word ≡ command) → (IsTrue r → AsksOnly command (map string_bytes words)) × (AsksOnly command (map string_bytes words) → IsTrue r)
only_word [] word command r is two within decides = absurd (omega (arith, two))
only_word (name ∷ []) word command r is two within decides = absurd (omega (arith, two))
only_word (name ∷ other ∷ []) word command r is two within decides =
    let same : string_bytes word ≡ string_bytes other = ap string_bytes is in
    (λ yes. sym same ∙ decides.0 yes, λ asks. decides.1 (same ∙ asks))
only_word (name ∷ other ∷ third ∷ words) word command r is two within decides = absurd (omega (arith, within))

pub word_is : (words : List (String Global)) (j : ℕ) (word : String Global) → j < length words → word ≡ get_or words j word → word_at (map string_bytes words) j ≡ string_bytes word
word_is words j word lt is = get_or-map string_bytes words j word [] lt ∙ ap string_bytes (sym is)

-- two words are `help`, and three `help` and a command
pub help_alone : (words : List (String Global)) (word : String Global) → word ≡ get_or words 1 word → 2 ≤ length words → length words < 3 → string_bytes word ≡ codes "help" → AsksHelpWord (map string_bytes words)
help_alone [] word is two within says = absurd (omega (arith, two))
help_alone (name ∷ []) word is two within says = absurd (omega (arith, two))
help_alone (name ∷ other ∷ []) word is two within says = ap string_bytes (sym is) ∙ says
help_alone (name ∷ other ∷ third ∷ words) word is two within says = absurd (omega (arith, within))

pub help_of : (words : List (String Global)) (word command : String Global) → word ≡ get_or words 1 word → command ≡ get_or words 2 command → 3 ≤ length words → length words < 4 → string_bytes word ≡ codes "help"
    → Contains commands (string_bytes command) → AsksHelpWord (map string_bytes words)
help_of [] word command is next three within says one = absurd (omega (arith, three))
help_of (name ∷ []) word command is next three within says one = absurd (omega (arith, three))
help_of (name ∷ other ∷ []) word command is next three within says one = absurd (omega (arith, three))
help_of (name ∷ other ∷ third ∷ []) word command is next three within says one = (ap string_bytes (sym is) ∙ says, subst (λ (w : String Global). Contains commands (string_bytes w)) next one)
help_of (name ∷ other ∷ third ∷ fourth ∷ words) word command is next three within says one = absurd (omega (arith, within))

-- all that stands after the first ones of a list
pub all_behind : {X : Type 0} (n : ℕ) (xs : List X) → take (length xs - n) (drop n xs) ≡ drop n xs
all_behind n xs = take_all (length xs - n) (drop n xs) (omega (arith, length-drop n xs))

-- after a command its options and nothing else
pub only_these : (words rest : List (String Global)) (word : String Global) (command : List ℕ) (known : List (List ℕ)) (given : List OptionWords) → word ≡ get_or words 1 word → 2 ≤ length words → string_bytes word ≡ command
    → BeginsWithOptions known (map string_bytes (drop 2 words)) given (map string_bytes rest) → length rest ≡ 0 → AsksCommand command (map string_bytes words) × BeginsWithOptions known (drop 2 (map string_bytes words)) given []
only_these [] rest word command known given is two says begins none = absurd (omega (arith, two))
only_these (name ∷ []) rest word command known given is two says begins none = absurd (omega (arith, two))
only_these (name ∷ other ∷ words) rest word command known given is two says begins none =
    (ap string_bytes (sym is) ∙ says, subst (λ (r : List (String Global)). BeginsWithOptions known (map string_bytes words) given (map string_bytes r)) (nil_from_length rest none) begins)
