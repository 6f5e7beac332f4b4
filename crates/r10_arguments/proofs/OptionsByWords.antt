-- Which options stand among words is known by the words.
use Rattle.std.proofs.Common.{◌≡◌, ℕ, Bool, true, false, not, ◌==◌, ◌≤◌, drop, length, List, [], ◌∷◌, ◌++◌, get_or, refl, arith, ap, sym, subst, ◌∙◌}
use Rattle.std.proofs.lemmas.List.{append-nil, get_or_default}
use Rattle.std.proofs.lemmas.List.Elements.{All-head, All-tail}
use Rattle.std.proofs.lemmas.List.Folds.{list_any-from_Any}
use Rattle.std.proofs.lemmas.List.Sums.{AllPass-from_list_all}
use Rattle.std.proofs.lemmas.Bool.{false≢true}
use Rattle.std.specs.List.{All, Contains, after_first, before_first, flat_map, list_all, list_any}
use Rattle.clap.proofs.CutLemmas.{Lacks, after_first-at, before_first-at, list_any-Lacks, list_any-at}
use Rattle.r10_arguments.specs.Options.{HasOnlyOptions, OptionWords, as_words}
use Rattle.r10_arguments.specs.Words.{GivesAll, GivesSelection, OptionsOfFormat, OptionsOfPlay, format_options, play_options}
use Rattle.r10_arguments.specs.declared.asked.FormatWords.{FormatWords}
use Rattle.r10_arguments.specs.declared.asked.PlayWords.{PlayWords}

-- a text without `=`
abbrev pub is_name : List ℕ → Bool
is_name text = not (list_any (λ (x : ℕ). x == 61) text)

name_lacks : (text : List ℕ) → is_name text ≡ true → Lacks 61 text
name_lacks text named i lt is =
    let found : list_any (λ (x : ℕ). x == 61) text ≡ true = list_any-from_Any (λ (x : ℕ). x == 61) text (i, 61, lt, get_or_default text i 61 0 lt ∙ is, refl) in
    false≢true (ap not (sym found) ∙ named)

-- the words of an option by its parts
told_by : (b c : Bool) (option value other else : List ℕ) (r s : List (List ℕ)) → Lacks 61 option → Lacks 61 other
    → as_words (record { option = option; value = value; is_joined = b }) ++ r ≡ as_words (record { option = other; value = else; is_joined = c }) ++ s → (b ≡ c) × (option ≡ other) × (value ≡ else) × (r ≡ s)
told_by true true option value other else r s one two e =
    let word : option ++ 61 ∷ value ≡ other ++ 61 ∷ else = ap (λ (l : List (List ℕ)). get_or l 0 []) e in
    let options : option ≡ other = sym (before_first-at 61 option value one) ∙ ap (before_first (λ (x : ℕ). x == 61)) word ∙ before_first-at 61 other else two in
    let values : value ≡ else = sym (after_first-at 61 option value one) ∙ ap (after_first (λ (x : ℕ). x == 61)) word ∙ after_first-at 61 other else two in
    (refl, options, values, ap (λ (l : List (List ℕ)). drop 1 l) e)
told_by true false option value other else r s one two e =
    let word : option ++ 61 ∷ value ≡ other = ap (λ (l : List (List ℕ)). get_or l 0 []) e in
    absurd (false≢true (sym (list_any-Lacks 61 other two) ∙ ap (list_any (λ (x : ℕ). x == 61)) (sym word) ∙ list_any-at 61 option value))
told_by false true option value other else r s one two e =
    let word : other ++ 61 ∷ else ≡ option = ap (λ (l : List (List ℕ)). get_or l 0 []) (sym e) in
    absurd (false≢true (sym (list_any-Lacks 61 option one) ∙ ap (list_any (λ (x : ℕ). x == 61)) (sym word) ∙ list_any-at 61 other else))
told_by false false option value other else r s one two e =
    (refl, ap (λ (l : List (List ℕ)). get_or l 0 []) e, ap (λ (l : List (List ℕ)). get_or l 1 []) e, ap (λ (l : List (List ℕ)). drop 2 l) e)

some_words : (b : Bool) (option value : List ℕ) (r : List (List ℕ)) → 1 ≤ length (as_words (record { option = option; value = value; is_joined = b }) ++ r)
some_words true option value r = omega arith
some_words false option value r = omega arith

-- lists of options whose names have no `=` are one where their words are
told_all : (known : List (List ℕ)) → ((o : List ℕ) → Contains known o → Lacks 61 o) → (given other : List OptionWords) → All (λ (g : OptionWords). Contains known g.option) given → All (λ (g : OptionWords). Contains known g.option) other
    → flat_map as_words given ≡ flat_map as_words other → given ≡ other
told_all known names [] [] one two e = refl
told_all known names [] (h ∷ other) one two e =
    let some = some_words h.is_joined h.option h.value (flat_map as_words other) in
    absurd (omega (arith, some, ap length e))
told_all known names (g ∷ given) [] one two e =
    let some = some_words g.is_joined g.option g.value (flat_map as_words given) in
    absurd (omega (arith, some, ap length e))
told_all known names (g ∷ given) (h ∷ other) one two e =
    let P : OptionWords → Type 0 = λ k. Contains known k.option in
    let reported = told_by g.is_joined h.is_joined g.option g.value h.option h.value (flat_map as_words given) (flat_map as_words other)
    (names g.option (All-head P g given one)) (names h.option (All-head P h other two)) e in
    let rest : given ≡ other = told_all known names given other (All-tail P g given one) (All-tail P h other two) reported.3 in
    let first : g ≡ h = rw (reported.0, reported.1, reported.2) refl in
    rw (first, rest) refl

pub told_once : (known words : List (List ℕ)) → list_all is_name known ≡ true → (given other : List OptionWords) → HasOnlyOptions known words given → HasOnlyOptions known words other → given ≡ other
told_once known words named given other one two =
    let names : (o : List ℕ) → Contains known o → Lacks 61 o = λ o (k, lt, is). name_lacks o (subst (λ (t : List ℕ). is_name t ≡ true) is (AllPass-from_list_all is_name known named k o lt)) in
    told_all known names given other one.are_known two.are_known
    (sym (append-nil (flat_map as_words given)) ∙ sym one.front ∙ two.front ∙ append-nil (flat_map as_words other))

-- options that stand among words, and do not give these values, give them in no other way
pub format_differs : (words : List (List ℕ)) (given : List OptionWords) (format : FormatWords)
    → HasOnlyOptions format_options words given → (OptionsOfFormat given format → ⊥) → GivesAll words format → ⊥
format_differs words given format only other gives =
    let same = told_once format_options words refl gives.given given gives.only only in
    other (subst (λ (g : List OptionWords). OptionsOfFormat g format) same gives.gives)

pub play_differs : (words : List (List ℕ)) (given : List OptionWords) (play : PlayWords)
    → HasOnlyOptions play_options words given → (OptionsOfPlay given play → ⊥) → GivesSelection words play → ⊥
play_differs words given play only other gives =
    let same = told_once play_options words refl gives.given given gives.only only in
    other (subst (λ (g : List OptionWords). OptionsOfPlay g play) same gives.gives)
