-- Two lists, place by place.
use Rattle.std.proofs.Common.{◌≡◌, ℕ, ◌+◌, ◌-◌, ◌<◌, ◌≤◌, ◌⊎◌, List, [], ◌∷◌, ◌++◌, length, get_or, set, refl, sym, ap, subst, ◌∙◌, inl, inr, ⊎_elim, arith, length-append}
use Rattle.std.proofs.lemmas.List.{get_or-set_same, get_or-set_other, get_or_default, length-set, get_or_append_left, get_or-append_right}

module _ {X Y : Type 0} (Match : X → Y → Type 0) (xs : List X) where
  -- the first of these have each their match, and no others are there
  pub record MatchedTo (place : ℕ) (ys : List Y) : Type 0 where
    pub number : length ys ≡ place
    pub each : (i : ℕ) (x : X) (y : Y) → i < place → Match (get_or xs i x) (get_or ys i y)

  pub none_matched : MatchedTo 0 []
  none_matched = record { number = refl; each = λ i x y below. absurd (omega (arith, below)) }

  -- one more
  pub one_matched : (place : ℕ) (ys : List Y) (x : X) (y : Y) → MatchedTo place ys → place < length xs → x ≡ get_or xs place x → Match x y → MatchedTo (place + 1) (ys ++ y ∷ [])
  one_matched place ys x y so within here more = record {
    number = length-append ys (y ∷ []) ∙ ap (λ n. n + 1) so.number;
    each = λ i a b below. ⊎_elim (λ before. earlier i a b before) (λ at. last i a b at) (where_is place i below);
  }
    where
      where_is : (n k : ℕ) → k < n + 1 → (k < n) ⊎ (k ≡ n)
      where_is n k h = grind arith

      earlier : (i : ℕ) (a : X) (b : Y) → i < place → Match (get_or xs i a) (get_or (ys ++ y ∷ []) i b)
      earlier i a b before = subst (λ (z : Y). Match (get_or xs i a) z) (sym (get_or_append_left ys (y ∷ []) b i (omega (arith, before, so.number)))) (so.each i a b before)

      last_is : (i : ℕ) (b : Y) → i ≡ place → get_or (ys ++ y ∷ []) i b ≡ y
      last_is i b at =
          let none_before : i - length ys ≡ 0 = omega (arith, at, so.number) in
          get_or-append_right ys (y ∷ []) (length ys) i b refl (omega (arith, at, so.number)) ∙ ap (λ (n : ℕ). get_or (y ∷ []) n b) none_before

      last : (i : ℕ) (a : X) (b : Y) → i ≡ place → Match (get_or xs i a) (get_or (ys ++ y ∷ []) i b)
      last i a b at =
          let first : x ≡ get_or xs i a = here ∙ get_or_default xs place x a within ∙ ap (λ (n : ℕ). get_or xs n a) (sym at) in
          subst (λ (z : Y). Match (get_or xs i a) z) (sym (last_is i b at)) (subst (λ (w : X). Match w y) first more)

module _ {X Y : Type 0} (Done : X → Y → Y → Type 0) (xs : List X) (ys : List Y) where
  -- the first of these are done, and the others wait
  pub record DoneTo (place : ℕ) (xs' : List X) (ys' : List Y) : Type 0 where
    pub number : length ys' ≡ length ys
    pub number_beside : length xs' ≡ length xs
    pub done : (i : ℕ) (x : X) (y z : Y) → i < place → i < length xs → Done (get_or xs i x) (get_or ys i y) (get_or ys' i z)
    pub others_wait : (i : ℕ) (x : X) → place ≤ i → get_or xs' i x ≡ get_or xs i x
    pub wait : (i : ℕ) (y : Y) → place ≤ i → get_or ys' i y ≡ get_or ys i y

  pub none_done : DoneTo 0 xs ys
  none_done = record { number = refl; number_beside = refl; done = λ i x y z below within. absurd (omega (arith, below)); others_wait = λ i x after. refl; wait = λ i y after. refl }

  pub one_done : length ys ≡ length xs → (place : ℕ) (xs' : List X) (ys' : List Y) (old new : X) (one other : Y) → DoneTo place xs' ys' → place < length ys' → old ≡ get_or xs' place old → one ≡ get_or ys' place one → Done old one other
      → DoneTo (place + 1) (set xs' place new) (set ys' place other)
  one_done number place xs' ys' old new one other so within here there more = record {
    number = length-set ys' place other ∙ so.number;
    number_beside = length-set xs' place new ∙ so.number_beside;
    done = λ i x y z below inside. ⊎_elim (λ before. earlier i x y z before inside) (λ at. last i x y z at) (where_is place i below);
    others_wait = λ i x after. get_or-set_other xs' place i new x (apart_from place i after) ∙ so.others_wait i x (omega (arith, after));
    wait = λ i y after. get_or-set_other ys' place i other y (apart_from place i after) ∙ so.wait i y (omega (arith, after));
  }
    where
      where_is : (n k : ℕ) → k < n + 1 → (k < n) ⊎ (k ≡ n)
      where_is n k h = grind arith

      apart_from : (n k : ℕ) → n + 1 ≤ k → k ≡ n → ⊥
      apart_from n k h e = absurd (omega (arith, h, e))

      earlier : (i : ℕ) (x : X) (y z : Y) → i < place → i < length xs → Done (get_or xs i x) (get_or ys i y) (get_or (set ys' place other) i z)
      earlier i x y z before inside = subst (λ (later : Y). Done (get_or xs i x) (get_or ys i y) later) (sym (get_or-set_other ys' place i other z (λ at. absurd (omega (arith, before, at))))) (so.done i x y z before inside)

      old_is : (x : X) → old ≡ get_or xs place x
      old_is x = here ∙ so.others_wait place old (omega arith) ∙ get_or_default xs place old x (omega (arith, within, so.number, number))

      one_is : (y : Y) → one ≡ get_or ys place y
      one_is y = there ∙ so.wait place one (omega arith) ∙ get_or_default ys place one y (omega (arith, within, so.number))

      last : (i : ℕ) (x : X) (y z : Y) → i ≡ place → Done (get_or xs i x) (get_or ys i y) (get_or (set ys' place other) i z)
      last i x y z at = subst (λ (n : ℕ). Done (get_or xs n x) (get_or ys n y) (get_or (set ys' place other) n z)) (sym at)
          (subst (λ (w : X). Done w (get_or ys place y) (get_or (set ys' place other) place z)) (old_is x)
          (subst (λ (w : Y). Done old w (get_or (set ys' place other) place z)) (one_is y)
          (subst (λ (w : Y). Done old one w) (sym (get_or-set_same ys' place other z within)) more)))
