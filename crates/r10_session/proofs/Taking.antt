-- One of a list is taken out, and others stay.
use Rattle.std.proofs.Common.{◌≡◌, ◌||◌, ◌+◌, ◌<◌, ℕ, suc, Bool, true, false, true≢false, List, [], ◌∷◌, ◌++◌, length, take, drop, get_or, Some, None, refl, sym, ap, ◌∙◌, arith, take-append-drop}
use Rattle.std.specs.List.{list_any, position, position_or_len, remove}
use Rattle.std.proofs.lemmas.Bool.{lt-ltb}
use Rattle.std.proofs.lemmas.List.{drop_more}
use Rattle.std.proofs.lemmas.List.Folds.{list_any-append}

module _ {X : Type 0} (test : X → Bool) where
  within : (xs : List X) → list_any test xs ≡ true → position_or_len test xs < length xs
  within [] some = absurd (true≢false (sym some))
  within (x ∷ xs) some = by (test x) refl some (λ later. within xs later)
    where
      by : (b : Bool) → test x ≡ b → list_any test (x ∷ xs) ≡ true → (list_any test xs ≡ true → position_or_len test xs < length xs) → position_or_len test (x ∷ xs) < length (x ∷ xs)
      by true is some rest = rw is (omega arith)
      by false is some rest = let later = rest (rw is at some) in rw is (omega (arith, later))

  -- where one passes, there is a first that does
  pub has_place : (xs : List X) → list_any test xs ≡ true → position test xs ≡ None → ⊥
  has_place xs some none =
      let there : Some (position_or_len test xs) ≡ None = rw (lt-ltb (position_or_len test xs) (length xs) (within xs some)) at none in
      absurd (cc)

  -- where the one that is taken out doesn't pass, one that passes stays
  pub still_there : (xs : List X) (i : ℕ) (d : X) → i < length xs → test (get_or xs i d) ≡ false → list_any test xs ≡ true → list_any test (remove xs i) ≡ true
  still_there xs i d inside fails some =
      let before = list_any test (take i xs) in
      let split : xs ≡ take i xs ++ (get_or xs i d ∷ drop (i + 1) xs) = sym (take-append-drop i xs) ∙ ap (λ (l : List X). take i xs ++ l) (drop_more xs i d inside) in
      let all : (before || (test (get_or xs i d) || list_any test (drop (i + 1) xs))) ≡ true = sym (list_any-append test (take i xs) (get_or xs i d ∷ drop (i + 1) xs)) ∙ sym (ap (λ (l : List X). list_any test l) split) ∙ some in
      let left : (before || list_any test (drop (i + 1) xs)) ≡ true = rw fails at all in
      let same : suc i ≡ i + 1 = omega arith in
      list_any-append test (take i xs) (drop (suc i) xs) ∙ ap (λ (n : ℕ). before || list_any test (drop n xs)) same ∙ left
