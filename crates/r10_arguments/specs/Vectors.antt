-- Words written out, and what they ask for.
use Rattle.std.specs.Prelude.{◌≡◌, ℕ, Bool, true, false, not, List, [], ◌∷◌, ◌++◌, codes, length, slice_index_or, take, refl}
use Rattle.std.specs.Fmt.{decimal}
use Rattle.std.specs.List.{All, Contains, flat_map, list_all}
use Rattle.std.specs.Str.{bytes_eq}
use Rattle.std.proofs.Common.{arith, inl, inr, lit<, sym, ap, subst, ◌∙◌}
use Rattle.std.proofs.lemmas.Bool.{false≢true}
use Rattle.std.proofs.lemmas.List.{append-nil, append_assoc, take_at}
use Rattle.std.proofs.lemmas.List.Elements.{All-cons, All-head, All-nil}
use Rattle.std.proofs.lemmas.List.Sums.{AllPass-from_list_all}
use Rattle.std.proofs.lemmas.Slice.Eq.{bytes_eq-Decides}
use Rattle.r10_arguments.specs.Options.{BeginsWithOptions, HasOnlyOptions, OptionWords, values_of, as_words}
use Rattle.r10_arguments.specs.Words.{GivesSelection, play_options}

-- an option whose value is the next word, and one with its value after `=`
abbrev channel_5 : OptionWords
channel_5 = record { option = codes "--channel"; value = decimal 5; is_joined = false }

abbrev from_9 : OptionWords
from_9 = record { option = codes "--from"; value = decimal 9; is_joined = true }

abbrev are_known : All (λ (g : OptionWords). Contains play_options g.option) (channel_5 ∷ from_9 ∷ [])
are_known =
    let P : OptionWords → Type 0 = λ g. Contains play_options g.option in
    All-cons P channel_5 (from_9 ∷ []) (1, lit< tt, refl) (All-cons P from_9 [] (2, lit< tt, refl) (All-nil P))

pub both_options : GivesSelection (codes "r10" ∷ codes "play" ∷ codes "--channel" ∷ decimal 5 ∷ (codes "--from=" ++ decimal 9) ∷ [])
    (record { file = 0; channel = 5; from = 9; to = 281474976710655 })
both_options = record {
  given = channel_5 ∷ from_9 ∷ [];
  only = record { front = refl; are_known = are_known };
  gives = record { file = inr (refl, refl); channel = inl refl; from = inl refl; to = inr (refl, refl) };
}

-- an option that stands twice has two values
pub two_values : values_of (codes "--channel") (channel_5 ∷ from_9 ∷ channel_5 ∷ []) ≡ decimal 5 ∷ decimal 5 ∷ []
two_values = refl

-- the option does not stand at the front of the word
abbrev is_other : List ℕ → List ℕ → Bool
is_other word option = not (bytes_eq (take (length option) word) option)

not_first : (known : List (List ℕ)) (word option behind : List ℕ) → list_all (is_other word) known ≡ true → Contains known option
    → word ≡ option ++ behind → ⊥
not_first known word option behind others (k, lt, is) front =
    let other : is_other word option ≡ true = subst (λ (o : List ℕ). is_other word o ≡ true) is
    (AllPass-from_list_all (is_other word) known others k option lt) in
    let begins : take (length option) word ≡ option = ap (take (length option)) front ∙ take_at option behind (length option) refl
    in
    false≢true (ap not (sym ((bytes_eq-Decides (take (length option) word) option).1 begins)) ∙ other)

not_so_first : (known words : List (List ℕ)) (word : List ℕ) (b : Bool) (option value : List ℕ) (rest : List (List ℕ))
    → list_all (is_other word) known ≡ true → Contains known option
    → word ∷ words ≡ as_words (record { option = option; value = value; is_joined = b }) ++ rest → ⊥
not_so_first known words word true option value rest others one front = not_first known word option (61 ∷ value) others one
    (ap (λ (l : List (List ℕ)). slice_index_or l 0 []) front)
not_so_first known words word false option value rest others one front =
    not_first known word option [] others one (ap (λ (l : List (List ℕ)). slice_index_or l 0 []) front ∙ sym (append-nil option))

-- words do not begin with options where none that is known stands at the front of the first
begins_not : (known words : List (List ℕ)) (word : List ℕ) → list_all (is_other word) known ≡ true → (given : List OptionWords)
    → BeginsWithOptions known (word ∷ words) given [] → ⊥
begins_not known words word others [] begins = omega (arith, ap length begins.front)
begins_not known words word others (g ∷ given) begins =
    let behind : word ∷ words ≡ as_words g ++ (flat_map as_words given ++ []) = begins.front
    ∙ append_assoc (as_words g) (flat_map as_words given) [] in
    not_so_first known words word g.is_joined g.option g.value (flat_map as_words given ++ []) others
    (All-head (λ (k : OptionWords). Contains known k.option) g given begins.are_known) behind

pub misspelled : (given : List OptionWords) → HasOnlyOptions play_options
    (codes "r10" ∷ codes "play" ∷ codes "--chanel" ∷ codes "5" ∷ []) given → ⊥
misspelled given = begins_not play_options (codes "5" ∷ []) (codes "--chanel") refl given

pub end_of_options : (given : List OptionWords) → HasOnlyOptions play_options (codes "r10" ∷ codes "play" ∷ codes "--" ∷ []) given
    → ⊥
end_of_options given = begins_not play_options [] (codes "--") refl given
