-- Texts among others, and options at the front of words.
use Rattle.std.proofs.Common.{◌≡◌, ℕ, true, map, ◌<◌, ◌≤◌, drop, length, List, [], ◌∷◌, ◌++◌, get_or, Bor, refl, arith, ap, sym, ◌∙◌}
use Rattle.std.proofs.lemmas.Grind.{flat_map-append}
use Rattle.std.proofs.lemmas.List.{get_or-map, length-map, map-append, append_assoc, append-nil}
use Rattle.std.proofs.lemmas.List.Elements.{All-append, All-cons, All-nil}
use Rattle.std.proofs.lemmas.Slice.Eq.{bytes_eq-Decides}
use Rattle.std.specs.List.{All, Contains, flat_map}
use Rattle.std.specs.Str.{bytes_eq}
use Rattle.r10_arguments.specs.Options.{BeginsWithOptions, GivesOption, IsLeftOut, OptionWords, as_words}
use Rattle.r10_arguments.specs.FoundOptions.{IsFrontOption, found_words}
use Rattle.r10_arguments.specs.declared.options.FoundOption.{FoundOption}

pub one_of : (texts : List (Bor (List ℕ))) (i : ℕ) (d : Bor (List ℕ)) (text : List ℕ) → i < length texts → bytes_eq (get_or texts i d).now text ≡ true → Contains (map (λ (k : Bor (List ℕ)). k.now) texts) text
one_of texts i d text lt equal =
    let now : Bor (List ℕ) → List ℕ = λ k. k.now in
    let inside : i < length (map now texts) = omega (arith, lt, length-map texts now) in
    let same : (get_or texts i d).now ≡ text = (bytes_eq-Decides (get_or texts i d).now text).0 equal in
    (i, inside, get_or-map now texts i d text lt ∙ same)

-- words before which some options stand, and one more at their front
pub one_more : (known words rest behind : List (List ℕ)) (given : List FoundOption) (found : FoundOption) → BeginsWithOptions known words (map found_words given) rest
    → IsFrontOption known rest found behind → BeginsWithOptions known words (map found_words (given ++ found ∷ [])) behind
one_more known words rest behind given found begins stands =
    let so_far = map found_words given in
    let more : map found_words (given ++ found ∷ []) ≡ so_far ++ found_words found ∷ [] = map-append found_words given (found ∷ []) in
    let front : words ≡ flat_map as_words (so_far ++ found_words found ∷ []) ++ behind =
    begins.front ∙ ap (λ r. flat_map as_words so_far ++ r) stands.front ∙ sym (append_assoc (flat_map as_words so_far) (as_words (found_words found)) behind)
    ∙ ap (λ w. flat_map as_words so_far ++ w ++ behind) (sym (append-nil (as_words (found_words found)))) ∙ ap (λ w. w ++ behind) (sym (flat_map-append as_words so_far (found_words found ∷ []))) in
    let is_known : Contains known (found_words found).option = stands.is_known in
    let are_known : All (λ (g : OptionWords). Contains known g.option) (so_far ++ found_words found ∷ []) =
    All-append (λ (g : OptionWords). Contains known g.option) so_far (found_words found ∷ []) begins.are_known
    (All-cons (λ (g : OptionWords). Contains known g.option) (found_words found) [] is_known (All-nil (λ (g : OptionWords). Contains known g.option))) in
    rw more (record { front = front; are_known = are_known })

-- an option stands first, and not after
pub gives_first : (given : List FoundOption) (d : FoundOption) (option value : List ℕ) → 1 ≤ length given → bytes_eq (get_or given 0 d).option.now option ≡ true → bytes_eq (get_or given 0 d).value.now value ≡ true
    → IsLeftOut (map found_words (drop 1 given)) option → GivesOption (map found_words given) option value
gives_first [] d option value some same is out = absurd (omega (arith, some))
gives_first (g ∷ given) d option value some same is out =
    let value_is : g.value.now ≡ value = (bytes_eq-Decides g.value.now value).0 is in
    rw (same, out, value_is) refl

-- an option that stands once, and first, does not stand after that
pub first_alone : (given : List FoundOption) (d : FoundOption) (option value : List ℕ) → 1 ≤ length given
    → bytes_eq (get_or given 0 d).option.now option ≡ true → GivesOption (map found_words given) option value
    → IsLeftOut (map found_words (drop 1 given)) option
first_alone [] d option value some same gives = absurd (omega (arith, some))
first_alone (g ∷ given) d option value some same gives = ap (drop 1) (rw (same) at gives)
