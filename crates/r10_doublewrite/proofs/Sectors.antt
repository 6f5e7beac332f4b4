-- Which sector a block lies in, by numbers.
use Rattle.std.proofs.Common.{◌≡◌, ℕ, zero, suc, ◌+◌, ◌-◌, ◌*◌, ◌/◌, ◌%◌, ◌<◌, ◌≤◌, inl, inr, List, [], ◌∷◌, ◌++◌, length, take, drop, refl, sym, ◌∙◌, ap, subst, arith, get_or-drop, get_or-take}
use Rattle.std.proofs.lemmas.Bool.{cases_lt}
use Rattle.std.proofs.lemmas.List.{length-append, length-drop, length-take, get_or_append_left, get_or-append_right, get_or_push}
use Rattle.r10_medium.specs.Disk.{Image, IsWhole}
use Rattle.r10_sector.specs.Held.{AreSectors}
use Rattle.std.proofs.Math.Nat.{mul-suc, div-add-mod, mul-mod_right, lt_of_mul-lt-mul_left}

-- a place in one of so many equal parts
pub in_parts : (per i m x : ℕ) → i < m → x < per → per * i + x < per * m
in_parts per zero (suc m) x lt less = omega (arith, less, mul-suc per m)
in_parts per (suc i) (suc m) x lt less = omega (arith, in_parts per i m x (omega (arith, lt)) less, mul-suc per i, mul-suc per m)
in_parts per i zero x lt less = absurd (omega (arith, lt))

first_is : (per n : ℕ) → n - n % per ≡ per * (n / per)
first_is per n = omega (arith, div-add-mod n per)

pub first_aligned : (per n : ℕ) → (n - n % per) % per ≡ 0
first_aligned per n = ap (λ (k : ℕ). k % per) (first_is per n) ∙ mul-mod_right per (n / per)

-- where all blocks lie in whole sectors, this one does
pub first_within : (per count n : ℕ) → 0 < per → count % per ≡ 0 → n < count → (n - n % per) + per ≤ count
first_within per count n some whole lt =
    let q = n / per in let m = count / per in
    let less : per * q < per * m = omega (arith, div-add-mod n per, div-add-mod count per, whole, lt) in
    let room : per * q + (per - 1) < per * m = in_parts per q m (per - 1) (lt_of_mul-lt-mul_left per less) (omega (arith, some)) in
    omega (arith, first_is per n, room, div-add-mod count per, whole, some)

-- some of the blocks of an image are whole
pub whole_part : (k f : ℕ) (a : Image) → IsWhole a → IsWhole (take k (drop f a))
whole_part k f a whole n lt =
    ap length (get_or-take k (drop f a) n [] (omega (arith, lt, length-take k (drop f a))) ∙ get_or-drop f a n [])
    ∙ whole (f + n) (omega (arith, lt, length-take k (drop f a), length-drop f a))

pub first_in : (k per count n : ℕ) → k ≡ per → 0 < per → count % per ≡ 0 → n < count → (n - n % k) + per ≤ count
first_in k per count n is some whole lt = subst (λ (j : ℕ). (n - n % j) + per ≤ count) (sym is) (first_within per count n some whole lt)

pub first_even : (k per n : ℕ) → k ≡ per → (n - n % k) % per ≡ 0
first_even k per n is = subst (λ (j : ℕ). (n - n % j) % per ≡ 0) (sym is) (first_aligned per n)

-- one sector more
pub sectors_push : (per count : ℕ) (fs fs' : List ℕ) (bs bs' xs : Image) (f : ℕ) → fs' ≡ fs ++ f ∷ [] → bs' ≡ bs ++ xs → AreSectors per count fs bs
    → f + per ≤ count → f % per ≡ 0 → length xs ≡ per → IsWhole xs → AreSectors per count fs' bs'
sectors_push per count fs fs' bs bs' xs f firsts blocks ok within aligned one whole =
    subst (λ (l : List ℕ). AreSectors per count l bs') (sym firsts) (subst (AreSectors per count (fs ++ f ∷ [])) (sym blocks) (record {
      size = omega (arith, length-append bs xs, ok.size, one, ap (λ (k : ℕ). per * k) more, mul-suc per (length fs));
      within = λ i lt. elim (cases_lt i (length fs)) [
        | inl less ↦ omega (arith, get_or_append_left fs (f ∷ []) 0 i less, ok.within i less)
        | inr past ↦ omega (arith, get_or_push fs f 0 i (last i lt past), within)
      ];
      aligned = λ i lt. elim (cases_lt i (length fs)) [
        | inl less ↦ ap (λ (k : ℕ). k % per) (get_or_append_left fs (f ∷ []) 0 i less) ∙ ok.aligned i less
        | inr past ↦ ap (λ (k : ℕ). k % per) (get_or_push fs f 0 i (last i lt past)) ∙ aligned
      ];
      whole = λ n lt. elim (cases_lt n (length bs)) [
        | inl less ↦ ap length (get_or_append_left bs xs [] n less) ∙ ok.whole n less
        | inr past ↦ ap length (get_or-append_right bs xs (length bs) n [] refl past) ∙ whole (n - length bs) (omega (arith, lt, past, length-append bs xs))
      ];
    }))
  where
    more : length (fs ++ f ∷ []) ≡ suc (length fs)
    more = omega (arith, length-append fs (f ∷ []))

    last : (i : ℕ) → i < length (fs ++ f ∷ []) → length fs ≤ i → length fs ≡ i
    last i lt past = omega (arith, lt, past, more)
