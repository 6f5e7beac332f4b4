-- The number of a channel, and its part of all accounts.
use Rattle.std.proofs.Common.{◌≡◌, ℕ, suc, ◌+◌, ◌<◌, ◌≤◌, Bool, true, false, not, cond, nat_lt, List, [], ◌∷◌, length, find, refl, sym, ap, subst, ◌∙◌, arith, Option, Some, None}
use Rattle.std.specs.Prelude.{slice_get}
use Rattle.std.specs.List.{position, position_or_len}
use Rattle.std.specs.Option.{option_and_then}
use Rattle.std.proofs.lemmas.Bool.{ltb-true, ltb-false, lt-ltb, le-ltb}

module _ {S : Type 0} (test : S → Bool) where
  abbrev pub number : List S → List ℕ → Option ℕ
  number specs numbers = option_and_then (slice_get numbers) (position test specs)

  at_once : (n k : ℕ) (numbers : List ℕ) → option_and_then (slice_get (n ∷ numbers)) (cond (nat_lt 0 (suc k)) (Some 0) None) ≡ Some n
  at_once n k numbers = rw (lt-ltb 0 (suc k) (omega arith)) refl

  one_later : (n k m : ℕ) (numbers : List ℕ) (b : Bool) → nat_lt k m ≡ b → option_and_then (slice_get (n ∷ numbers)) (cond (nat_lt (1 + k) (suc m)) (Some (1 + k)) None) ≡ option_and_then (slice_get numbers) (cond (nat_lt k m) (Some k) None)
  one_later n k m numbers true h =
      let one : 1 + k ≡ suc k = omega arith in
      let lt : nat_lt (suc k) (suc m) ≡ true = lt-ltb (suc k) (suc m) (omega (arith, ltb-true k m h)) in
      rw (one, lt, h) refl
  one_later n k m numbers false h =
      let lt : nat_lt (1 + k) (suc m) ≡ false = le-ltb (1 + k) (suc m) (omega (arith, ltb-false k m h)) in
      rw (lt, h) refl

  pub number_first : (s : S) (specs : List S) (n : ℕ) (numbers : List ℕ) → test s ≡ true → number (s ∷ specs) (n ∷ numbers) ≡ Some n
  number_first s specs n numbers is = rw is (at_once n (length specs) numbers)

  pub number_later : (s : S) (specs : List S) (n : ℕ) (numbers : List ℕ) → test s ≡ false → number (s ∷ specs) (n ∷ numbers) ≡ number specs numbers
  number_later s specs n numbers is = rw is (one_later n (position_or_len test specs) (length specs) numbers (nat_lt (position_or_len test specs) (length specs)) refl)
