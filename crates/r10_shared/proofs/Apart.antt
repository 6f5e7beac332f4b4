-- No two of one channel.
use Rattle.std.proofs.Common.{◌≡◌, ℕ, ◌+◌, ◌-◌, ◌<◌, ◌==◌, ◌⊎◌, false, true≢false, List, [], ◌∷◌, ◌++◌, length, get_or, refl, sym, ap, ◌∙◌, inl, inr, ⊎_elim, arith, length-append}
use Rattle.std.specs.List.{list_any}
use Rattle.std.proofs.lemmas.Bool.{eq-eqb}
use Rattle.std.proofs.lemmas.List.{get_or_append_left, get_or-append_right}
use Rattle.std.proofs.lemmas.List.Folds.{list_any_at}

module _ {X : Type 0} (channel : X → ℕ) where
  abbrev pub Apart : List X → Type 0
  Apart xs = (i j : ℕ) (r s : X) → i < j → j < length xs → channel (get_or xs i r) ≡ channel (get_or xs j s) → ⊥

  pub apart_none : Apart []
  apart_none i j r s below within same = absurd (omega (arith, within))

  pub apart_more : (xs : List X) (x : X) → Apart xs → list_any (λ y. channel y == channel x) xs ≡ false → Apart (xs ++ x ∷ [])
  apart_more xs x apart none i j r s below within same =
      ⊎_elim (λ before. earlier before) (λ at. last at) (where_is (length xs) j (omega (arith, within, length-append xs (x ∷ []))))
    where
      where_is : (n k : ℕ) → k < n + 1 → (k < n) ⊎ (k ≡ n)
      where_is n k h = grind arith

      earlier : j < length xs → ⊥
      earlier before =
          apart i j r s below before
          (ap channel (sym (get_or_append_left xs (x ∷ []) r i (omega (arith, below, before)))) ∙ same ∙ ap channel (get_or_append_left xs (x ∷ []) s j before))

      here : j ≡ length xs → get_or (xs ++ x ∷ []) j s ≡ x
      here at =
          let none_before : j - length xs ≡ 0 = omega (arith, at) in
          get_or-append_right xs (x ∷ []) (length xs) j s refl (omega (arith, at)) ∙ ap (λ (n : ℕ). get_or (x ∷ []) n s) none_before

      last : j ≡ length xs → ⊥
      last at =
          let there : i < length xs = omega (arith, below, at) in
          let first : get_or (xs ++ x ∷ []) i r ≡ get_or xs i r = get_or_append_left xs (x ∷ []) r i there in
          true≢false
          (sym (list_any_at (λ y. channel y == channel x) xs i r there (eq-eqb (channel (get_or xs i r)) (channel x) (ap channel (sym first) ∙ same ∙ ap channel (here at)))) ∙ none)
