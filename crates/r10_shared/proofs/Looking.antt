-- A channel's lane among all, and what changes there.
use Rattle.std.proofs.Common.{◌≡◌, ℕ, ◌<◌, ◌==◌, Bool, true, false, true≢false, List, length, get_or, set, refl, sym, ap, subst, ◌∙◌, Option, Some, [], ◌∷◌}
use Rattle.std.specs.List.{AllByRecursion, find, position}
use Rattle.std.proofs.lemmas.Bool.{eqb-true, eq-eqb}
use Rattle.std.proofs.lemmas.List.Folds.{find_past}
use Rattle.r10_builder.proofs.First.{place_found}

module _ {L : Type 0} (id : L → ℕ) where
  abbrev lane_on : ℕ → List L → Option L
  lane_on channel lanes = find (λ l. id l == channel) lanes

  others : (channel other : ℕ) (b : Bool) → (channel == other) ≡ b → (other ≡ channel → ⊥) → b ≡ false
  others channel other true is apart = absurd (apart (sym (eqb-true channel other is)))
  others channel other false is apart = refl

  -- where a channel's lane is changed, and stays the channel's, the lanes of others stay
  pub lanes_stay : (channel other : ℕ) (lanes : List L) (at : ℕ) (new d : L) → position (λ l. id l == channel) lanes ≡ Some at → id new ≡ id (get_or lanes at d) → (other ≡ channel → ⊥)
      → lane_on other (set lanes at new) ≡ lane_on other lanes
  lanes_stay channel other lanes at new d is same apart =
      let there = place_found (λ l. id l == channel) lanes at d is in
      let old : id (get_or lanes at d) ≡ channel = eqb-true (id (get_or lanes at d)) channel there.passes in
      let no : (channel == other) ≡ false = others channel other (channel == other) refl apart in
      find_past (λ l. id l == other) lanes at new d (ap (λ (n : ℕ). n == other) old ∙ no) (ap (λ (n : ℕ). n == other) (same ∙ old) ∙ no)

-- what is true of all is true of one that was found
pub found_has : {L : Type 0} (P : L → Type 0) (test : L → Bool) (lanes : List L) (lane : L) → AllByRecursion P lanes → find test lanes ≡ Some lane → P lane × (test lane ≡ true)
found_has P test [] lane all there = absurd (cc)
found_has {L} P test (l ∷ lanes) lane all there = by (test l) refl there (λ later. found_has P test lanes lane all.1 later)
  where
    some_is : (x y : L) → Some x ≡ Some y → x ≡ y
    some_is x y e = cc

    by : (b : Bool) → test l ≡ b → find test (l ∷ lanes) ≡ Some lane → (find test lanes ≡ Some lane → P lane × (test lane ≡ true)) → P lane × (test lane ≡ true)
    by true is found rest = let at : l ≡ lane = some_is l lane (rw is at found) in (subst P at all.0, subst (λ (m : L). test m ≡ true) at is)
    by false is found rest = rest (rw is at found)
