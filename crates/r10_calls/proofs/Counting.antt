-- What is counted of a channel changes, by the channel's place.
use Rattle.std.proofs.Common.{◌≡◌, ℕ, ◌+◌, ◌<◌, ◌≤◌, zero, suc, Bool, true, false, not, cond, List, [], ◌∷◌, ◌++◌, length, map, take, drop, get_or, set, None, Some, refl, ap, sym, ◌∙◌, subst, arith}
use Rattle.std.specs.List.{position, position_or_len}
use Rattle.r10_body.proofs.Places.{no_place, place_is}
use Rattle.r10_machine.specs.Machine.{change_first}
use Rattle.r10_machine.proofs.Places.{changed_at}
use Rattle.r10_calls.specs.Accounts.{is_counted_on}
use Rattle.r10_calls.specs.declared.accounts.Accepted.{Accepted}

module _ (channel : ℕ) (change : Accepted → Accepted) where
  nowhere : (xs : List Accepted) → length xs ≤ position_or_len (is_counted_on channel) xs → change_first (is_counted_on channel) change xs ≡ xs
  nowhere [] beyond = refl
  nowhere (x ∷ xs) beyond = by (is_counted_on channel x) beyond (nowhere xs)
    where
      by : (b : Bool) → length (x ∷ xs) ≤ cond (not b) (1 + position_or_len (is_counted_on channel) xs) 0 → (length xs ≤ position_or_len (is_counted_on channel) xs → change_first (is_counted_on channel) change xs ≡ xs)
          → cond b (change x ∷ xs) (x ∷ change_first (is_counted_on channel) change xs) ≡ x ∷ xs
      by true beyond rest = absurd (omega (arith, beyond))
      by false beyond rest = ap (λ (ys : List Accepted). x ∷ ys) (rest (omega (arith, beyond)))

  pub changed_there : (xs : List Accepted) (i : ℕ) (old new : Accepted) → position (is_counted_on channel) xs ≡ Some i → old ≡ get_or xs i old → new ≡ change old → set xs i new ≡ change_first (is_counted_on channel) change xs
  changed_there xs i old new is here made =
      let at = place_is (is_counted_on channel) xs i is in
      let within : i < length xs = omega (arith, at.0, at.1) in
      ap (λ (x : Accepted). set xs i x) (made ∙ ap change here) ∙ sym (changed_at (is_counted_on channel) change xs i old at.1 within)

  pub none_there : (xs : List Accepted) → position (is_counted_on channel) xs ≡ None → xs ≡ change_first (is_counted_on channel) change xs
  none_there xs is = sym (nowhere xs (no_place (is_counted_on channel) xs is))

-- each of the first is changed, and the next
pub next_changed : (change : Accepted → Accepted) (xs : List Accepted) (i : ℕ) (d : Accepted) → i < length xs
    → set (map change (take i xs) ++ drop i xs) i (change (get_or (map change (take i xs) ++ drop i xs) i d)) ≡ map change (take (i + 1) xs) ++ drop (i + 1) xs
next_changed change [] i d within = absurd (omega (arith, within))
next_changed change (x ∷ xs) zero d within = refl
next_changed change (x ∷ xs) (suc i) d within =
    let next : suc (i + 1) ≡ suc i + 1 = omega arith in
    subst (λ (n : ℕ). change x ∷ set (map change (take i xs) ++ drop i xs) i (change (get_or (map change (take i xs) ++ drop i xs) i d)) ≡ map change (take n (x ∷ xs)) ++ drop n (x ∷ xs)) next
    (ap (λ (ys : List Accepted). change x ∷ ys) (next_changed change xs i d (omega (arith, within))))
