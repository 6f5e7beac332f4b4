-- Where the first element of a list stands that passes a test.
use Rattle.std.proofs.Common.{◌≡◌, ℕ, ◌<◌, ◌≤◌, Bool, true, false, cond, nat_lt, List, length, Option, None, Some, refl}
use Rattle.std.specs.List.{position, position_or_len}
use Rattle.std.proofs.lemmas.Bool.{ltb-false, ltb-true}

pub place_is : {X : Type 0} (test : X → Bool) (xs : List X) (i : ℕ) → position test xs ≡ Some i → (position_or_len test xs < length xs) × (position_or_len test xs ≡ i)
place_is test xs i is = by (position_or_len test xs) (length xs) (nat_lt (position_or_len test xs) (length xs)) refl is
  where
    by : (m n : ℕ) (b : Bool) → nat_lt m n ≡ b → cond b (Some m) None ≡ Some i → (m < n) × (m ≡ i)
    by m n true h e = (ltb-true m n h, cc)
    by m n false h e = absurd (cc)

pub no_place : {X : Type 0} (test : X → Bool) (xs : List X) → position test xs ≡ None → length xs ≤ position_or_len test xs
no_place test xs is = by (position_or_len test xs) (length xs) (nat_lt (position_or_len test xs) (length xs)) refl is
  where
    by : (m n : ℕ) (b : Bool) → nat_lt m n ≡ b → cond b (Some m) None ≡ None → n ≤ m
    by m n true h e = absurd (cc)
    by m n false h e = ltb-false m n h
