-- Each step keeps the rule.
use Rattle.std.proofs.Common.{◌≡◌, ◌≢◌, ◌⊎◌, ℕ, zero, suc, ◌+◌, ◌-◌, ◌^◌, ◌<◌, min, List, [], ◌∷◌, ◌++◌, length, set, Some, slice_get, true, refl, sym, ap, ◌∙◌, subst, ⊎_elim, inl, inr, arith, length-append, append_assoc}
use Rattle.std.proofs.lemmas.List.{append-nil}
use Rattle.std.proofs.lemmas.Bool.{false≢true}
use mathlib.Core.Option.{some, some-ne-none, some-injective}
use mathlib.Core.List.{IsPrefix}
use lib.ListN.{get_elem?}
use Rattle.crossbeam_utils.specs.Register.{Turns, Forks, Merges}
use Rattle.atomic_table.proofs.Lists.{at_set, at_snoc, set_again}
use Rattle.r10_body.specs.declared.refusal.Glance.{Glance}
use Rattle.r10_gauge.specs.declared.cell.SeatKnows.{SeatKnows}
use Rattle.r10_gauge.specs.Published.{triple, nothing_published, last_triple, commits_of, AreNumbered}
use Rattle.r10_gauge.specs.Seats.{triple_of_words, seat_knowing, writing_seat, reading_seat, making_seat, spent_seat, having_met, SeesFront, KeepsOneList, GrewByWords, SawAll}

pub last_triple_push : (xs : List Glance) (x : Glance) → last_triple (xs ++ x ∷ []) ≡ x
last_triple_push [] x = refl
last_triple_push (y ∷ []) x = refl
last_triple_push (y ∷ z ∷ xs) x = last_triple_push (z ∷ xs) x

some_is : (x y : Glance) → Some x ≡ Some y → x ≡ y
some_is x y e = cc

at_end : (xs : List Glance) (x y : Glance) (i : ℕ) → slice_get (xs ++ x ∷ []) i ≡ Some y → (slice_get xs i ≡ Some y) ⊎ ((i ≡ length xs) × (x ≡ y))
at_end [] x y zero e = inr (refl, some_is x y e)
at_end [] x y (suc i) e = absurd (cc)
at_end (z ∷ xs) x y zero e = inl e
at_end (z ∷ xs) x y (suc i) e = ⊎_elim (λ (h : slice_get xs i ≡ Some y). inl h) (λ (h : (i ≡ length xs) × (x ≡ y)). inr (ap suc h.0, h.1)) (at_end xs x y i e)

pub numbered_push : (log : List Glance) (x : Glance) → AreNumbered log → x.commits ≡ min (length log) (2 ^ 64 - 1) → AreNumbered (log ++ x ∷ [])
numbered_push log x num at i y e =
    ⊎_elim (λ (h : slice_get log i ≡ Some y). num i y h)
    (λ (h : (i ≡ length log) × (x ≡ y)). ap (λ (g : Glance). g.commits) (sym h.1) ∙ at ∙ ap (λ n. min n (2 ^ 64 - 1)) (sym h.0))
    (at_end log x y i e)

prefix_longer : (xs ys zs : List Glance) → IsPrefix xs ys → IsPrefix xs (ys ++ zs)
prefix_longer xs ys zs (rest, is) = (rest ++ zs, sym (append_assoc xs rest zs) ∙ ap (λ l. l ++ zs) is)

prefix_self : (xs : List Glance) → IsPrefix xs xs
prefix_self xs = ([], append-nil xs)

fits_set : (seat : ℕ) (log now : List Glance) (views : List SeatKnows) (by : ℕ) (w : SeatKnows) → ((j : ℕ) (u : SeatKnows) → j ≢ by → get_elem? views j ≡ some u → SeesFront seat now j u) → SeesFront seat now by w → (j : ℕ) (u : SeatKnows) → get_elem? (set views by w) j ≡ some u → SeesFront seat now j u
fits_set seat log now views by w others mine j u e =
    ⊎_elim
    (λ (x : (j ≡ by) × (w ≡ u)). subst (λ (y : ℕ × SeatKnows). SeesFront seat now y.0 y.1) (λ i. (sym x.0 i, x.1 i)) mine)
    (λ (x : (j ≢ by) × (get_elem? views j ≡ some u)). others j u x.0 x.1)
    (at_set views by j w u e)

prefix_none : (xs : List Glance) → IsPrefix [] xs
prefix_none xs = (xs, refl)

pub begins : (keeps : List Glance → Type 0) → keeps nothing_published → KeepsOneList keeps (0 ∷ 0 ∷ 0 ∷ []) (making_seat ∷ [])
begins keeps first = (0, (triple 0 0 0) ∷ [], omega arith, refl, first, one)
  where
    one : (by : ℕ) (v : SeatKnows) → get_elem? (making_seat ∷ []) by ≡ some v → SeesFront 0 ((triple 0 0 0) ∷ []) by v
    one zero v e = subst (SeesFront 0 ((triple 0 0 0) ∷ []) 0) (some-injective _ _ e) (prefix_self ((triple 0 0 0) ∷ []), prefix_none ((triple 0 0 0) ∷ []), (λ _. (refl, refl)))
    one (suc by) v e = absurd (some-ne-none v (sym e))

pub publishes : (keeps : List Glance → Type 0) (by : ℕ) (v : SeatKnows) (new : List ℕ) → v.writes ≡ true → keeps (v.seen ++ triple_of_words new ∷ []) → Turns (KeepsOneList keeps) by v (λ _. new) GrewByWords
publishes keeps by v new writes kept words views (seat, log, near, last, num, fits) here =
    let mine = fits by v here in
    let own = mine.2 writes in
    let x = triple_of_words new in
    let w = writing_seat (v.seen ++ x ∷ []) in
    let now = log ++ x ∷ [] in (
      w,
      (
        seat,
        now,
        omega (arith, near, length-append log (x ∷ [])),
        last_triple_push log x,
        subst (λ l. keeps (l ++ x ∷ [])) own.1 kept,
        fits_set seat log now views by w
            (λ j u apart e. let theirs = fits j u e in (prefix_longer u.seen log (x ∷ []) theirs.0, prefix_longer u.met log (x ∷ []) theirs.1, (λ k. absurd (apart ((theirs.2 k).0 ∙ sym own.0)))))
            (subst (λ l. IsPrefix l now) (ap (λ l. l ++ x ∷ []) (sym own.1)) (prefix_self now), prefix_none now, (λ _. (own.0, ap (λ l. l ++ x ∷ []) own.1))),
      ),
      refl,
    )

pub looks : (keeps : List Glance → Type 0) (by : ℕ) (v : SeatKnows) → Turns (KeepsOneList keeps) by v (λ x. x) (SawAll keeps)
looks keeps by v words views (seat, log, near, last, num, fits) here =
    let mine = fits by v here in
    let w = seat_knowing v.writes log in (
      w,
      (seat, log, near, last, num, fits_set seat log log views by w (λ j u apart e. fits j u e) (prefix_self log, prefix_none log, (λ k. ((mine.2 k).0, refl)))),
      (refl, mine.0, last, num, near, λ k. let own = mine.2 k in (λ i. seat_knowing (k i) (sym own.1 i), subst (λ l. IsPrefix v.met l) (sym own.1) mine.1)),
    )

pub halves : (keeps : List Glance → Type 0) (by : ℕ) (v : SeatKnows) → Forks (KeepsOneList keeps) by v v (reading_seat v.seen)
halves keeps by v words views (seat, log, near, last, num, fits) here =
    let mine = fits by v here in (
      seat,
      log,
      near,
      last,
      num,
      λ j u e. ⊎_elim
          (λ was. fits j u (subst (λ l. get_elem? l j ≡ some u) (set_again views by v here) was))
          (λ (same : reading_seat v.seen ≡ u). subst (SeesFront seat log j) same (mine.0, prefix_none log, (λ k. absurd (false≢true k))))
          (at_snoc (set views by v) (reading_seat v.seen) u j e),
    )

-- a seat meets another
pub meets : (keeps : List Glance → Type 0) (by : ℕ) (v : SeatKnows) (other : ℕ) (w : SeatKnows) → Merges (KeepsOneList keeps) by v other w (having_met v w.seen) spent_seat
meets keeps by v other w words views (seat, log, near, last, num, fits) here apart there =
    let mine = fits by v here in
    let theirs : SeesFront seat log other w =
    ⊎_elim
    (λ (x : (other ≡ by) × (having_met v w.seen ≡ w)). absurd (apart x.0))
    (λ (x : (other ≢ by) × (get_elem? views other ≡ some w)). fits other w x.1)
    (at_set views by other (having_met v w.seen) w there)
    in (
      seat,
      log,
      near,
      last,
      num,
      fits_set seat log log (set views by (having_met v w.seen)) other spent_seat
          (λ j u not_other e. fits_set seat log log views by (having_met v w.seen) (λ i s not_by is. fits i s is) (mine.0, theirs.0, mine.2) j u e)
          (prefix_none log, prefix_none log, (λ k. absurd (false≢true k))),
    )

-- the last of a numbered list tells how many were published
pub last_counts : (xs : List Glance) → 0 < length xs → AreNumbered xs → (last_triple xs).commits ≡ commits_of xs
last_counts [] near num = absurd (omega (arith, near))
last_counts (y ∷ ys) near num = num (length ys) (last_triple (y ∷ ys)) (at_last y ys) ∙ ap (λ (n : ℕ). min n (2 ^ 64 - 1)) (one_less (length ys))
  where
    at_last : (x : Glance) (xs : List Glance) → slice_get (x ∷ xs) (length xs) ≡ Some (last_triple (x ∷ xs))
    at_last x [] = refl
    at_last x (z ∷ xs) = at_last z xs

    one_less : (n : ℕ) → n ≡ suc n - 1
    one_less n = omega arith

-- a writing seat knows all that it published
pub writes_on : (keeps : List Glance → Type 0) (v w : SeatKnows) (x : Glance) → w ≡ writing_seat (v.seen ++ x ∷ []) → keeps (v.seen ++ x ∷ [])
    → (w ≡ writing_seat w.seen) × (0 < length w.seen) × (x ≡ last_triple w.seen) × keeps w.seen
writes_on keeps v w x grew kept =
    let all : w.seen ≡ v.seen ++ x ∷ [] = ap (λ (u : SeatKnows). u.seen) grew in (
      grew ∙ sym (ap (λ (u : SeatKnows). writing_seat u.seen) grew),
      omega (arith, ap (λ (l : List Glance). length l) all, length-append v.seen (x ∷ [])),
      sym (last_triple_push v.seen x) ∙ sym (ap last_triple all),
      subst keeps (sym all) kept,
    )

-- the next number goes on with the numbers
pub numbers_on : (log : List Glance) (last x : Glance) (now : ℕ) → last ≡ last_triple log → 0 < length log → AreNumbered log → now ≡ min (last.commits + 1) (2 ^ 64 - 1) → x.commits ≡ now
    → (now ≡ min (length log) (2 ^ 64 - 1)) × AreNumbered (log ++ x ∷ [])
numbers_on log last x now is near num next of =
    let many : last.commits ≡ commits_of log = ap (λ (g : Glance). g.commits) is ∙ last_counts log near num in
    let number : now ≡ min (length log) (2 ^ 64 - 1) = omega (arith, next, many, near) in
    (number, numbered_push log x num (of ∙ number))
