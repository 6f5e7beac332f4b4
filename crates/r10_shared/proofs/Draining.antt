-- Lane by lane.
use Rattle.std.proofs.Common.{◌≡◌, ℕ, ◌+◌, ◌<◌, ◌≤◌, ◌⊎◌, List, length, get_or, set, refl, sym, ap, subst, ◌∙◌, inl, inr, ⊎_elim, arith, Option, Some}
use Rattle.std.specs.Prelude.{IsSomeAnd}
use Rattle.std.proofs.lemmas.List.{get_or-set_same, get_or-set_other, get_or_default, length-set}
use Rattle.r10_shared.proofs.Apart.{Apart}

module _ {F R L : Type 0} (channel : F → ℕ) (reported : R → ℕ) (lane_of : ℕ → List L → Option L) (Moves : L → F → R → R → Type 0) (lanes : List L) (feeds : List F) (reports : List R) where
  -- so many are done, and the others wait
  pub record DrainedTo (place : ℕ) (lanes' : List L) (feeds' : List F) (reports' : List R) : Type 0 where
    pub number : length reports' ≡ length reports
    pub feeds_number : length feeds' ≡ length feeds
    pub done : (i : ℕ) (f : F) (r s : R) → i < place → i < length feeds → IsSomeAnd (lane_of (channel (get_or feeds i f)) lanes) (λ lane. Moves lane (get_or feeds i f) (get_or reports i r) (get_or reports' i s))
    pub feeds_wait : (i : ℕ) (f : F) → place ≤ i → get_or feeds' i f ≡ get_or feeds i f
    pub reports_wait : (i : ℕ) (r : R) → place ≤ i → get_or reports' i r ≡ get_or reports i r
    pub lanes_wait : (i : ℕ) (f : F) → place ≤ i → i < length feeds → lane_of (channel (get_or feeds i f)) lanes' ≡ lane_of (channel (get_or feeds i f)) lanes

  pub none_drained : DrainedTo 0 lanes feeds reports
  none_drained = record {
    number = refl;
    feeds_number = refl;
    done = λ i f r s below within. absurd (omega (arith, below));
    feeds_wait = λ i f after. refl;
    reports_wait = λ i r after. refl;
    lanes_wait = λ i f after within. refl;
  }

  -- what waits at the place
  pub feed_waits : (place : ℕ) (lanes' : List L) (feeds' : List F) (reports' : List R) (old : F) → DrainedTo place lanes' feeds' reports' → old ≡ get_or feeds' place old → old ≡ get_or feeds place old
  feed_waits place lanes' feeds' reports' old so here = here ∙ so.feeds_wait place old (omega arith)

  pub lane_waits : (place : ℕ) (lanes' : List L) (feeds' : List F) (reports' : List R) (old : F) → DrainedTo place lanes' feeds' reports' → place < length feeds → old ≡ get_or feeds' place old → lane_of (channel old) lanes' ≡ lane_of (channel old) lanes
  lane_waits place lanes' feeds' reports' old so inside here =
      subst (λ (o : F). lane_of (channel o) lanes' ≡ lane_of (channel o) lanes) (sym (feed_waits place lanes' feeds' reports' old so here)) (so.lanes_wait place old (omega arith) inside)

  module _ (number : length reports ≡ length feeds) (channels : (i : ℕ) (f : F) (r : R) → i < length feeds → reported (get_or reports i r) ≡ channel (get_or feeds i f)) (apart : Apart reported reports) where
    -- one more
    pub one_drained : (place : ℕ) (lanes' lanes'' : List L) (feeds' : List F) (reports' : List R) (old new : F) (report report' : R) → DrainedTo place lanes' feeds' reports' → place < length reports'
        → old ≡ get_or feeds' place old → report ≡ get_or reports' place report
        → IsSomeAnd (lane_of (channel old) lanes') (λ lane. Moves lane old report report')
        → ((c : ℕ) → (c ≡ channel old → ⊥) → lane_of c lanes'' ≡ lane_of c lanes')
        → DrainedTo (place + 1) lanes'' (set feeds' place new) (set reports' place report')
    one_drained place lanes' lanes'' feeds' reports' old new report report' so within here there moves others = record {
      number = length-set reports' place report' ∙ so.number;
      feeds_number = length-set feeds' place new ∙ so.feeds_number;
      done = λ i f r s below inside. ⊎_elim (λ before. earlier i f r s before inside) (λ at. last i f r s at inside) (where_is place i below);
      feeds_wait = λ i f after. get_or-set_other feeds' place i new f (apart_from place i after) ∙ so.feeds_wait i f (omega (arith, after));
      reports_wait = λ i r after. get_or-set_other reports' place i report' r (apart_from place i after) ∙ so.reports_wait i r (omega (arith, after));
      lanes_wait = λ i f after inside. others (channel (get_or feeds i f)) (another i f after inside) ∙ so.lanes_wait i f (omega (arith, after)) inside;
    }
      where
        where_is : (n k : ℕ) → k < n + 1 → (k < n) ⊎ (k ≡ n)
        where_is n k h = grind arith

        apart_from : (n k : ℕ) → n + 1 ≤ k → k ≡ n → ⊥
        apart_from n k h e = absurd (omega (arith, h, e))

        inside_feeds : place < length feeds
        inside_feeds = omega (arith, within, so.number, number)

        feed_is : (f : F) → old ≡ get_or feeds place f
        feed_is f = here ∙ so.feeds_wait place old (omega arith) ∙ get_or_default feeds place old f inside_feeds

        report_is : (r : R) → report ≡ get_or reports place r
        report_is r = there ∙ so.reports_wait place report (omega arith) ∙ get_or_default reports place report r (omega (arith, within, so.number))

        earlier : (i : ℕ) (f : F) (r s : R) → i < place → i < length feeds → IsSomeAnd (lane_of (channel (get_or feeds i f)) lanes) (λ lane. Moves lane (get_or feeds i f) (get_or reports i r) (get_or (set reports' place report') i s))
        earlier i f r s before inside = subst (λ (later : R). IsSomeAnd (lane_of (channel (get_or feeds i f)) lanes) (λ lane. Moves lane (get_or feeds i f) (get_or reports i r) later))
            (sym (get_or-set_other reports' place i report' s (λ at. absurd (omega (arith, before, at))))) (so.done i f r s before inside)

        last : (i : ℕ) (f : F) (r s : R) → i ≡ place → i < length feeds → IsSomeAnd (lane_of (channel (get_or feeds i f)) lanes) (λ lane. Moves lane (get_or feeds i f) (get_or reports i r) (get_or (set reports' place report') i s))
        last i f r s at inside = subst (λ (n : ℕ). IsSomeAnd (lane_of (channel (get_or feeds n f)) lanes) (λ lane. Moves lane (get_or feeds n f) (get_or reports n r) (get_or (set reports' place report') n s)))
            (sym at)
            (subst (λ (o : F). IsSomeAnd (lane_of (channel o) lanes) (λ lane. Moves lane o (get_or reports place r) (get_or (set reports' place report') place s)))
            (feed_is f)
            (subst (λ (p : R). IsSomeAnd (lane_of (channel old) lanes) (λ lane. Moves lane old p (get_or (set reports' place report') place s)))
            (report_is r)
            (subst (λ (q : R). IsSomeAnd (lane_of (channel old) lanes) (λ lane. Moves lane old report q))
            (sym (get_or-set_same reports' place report' s within))
            (subst (λ (found : Option L). IsSomeAnd found (λ lane. Moves lane old report report'))
            (subst (λ (o : F). lane_of (channel o) lanes' ≡ lane_of (channel o) lanes) (sym (feed_is old)) (so.lanes_wait place old (omega arith) inside_feeds))
            moves))))

        another : (i : ℕ) (f : F) → place + 1 ≤ i → i < length feeds → channel (get_or feeds i f) ≡ channel old → ⊥
        another i f after inside same = apart place i report report (omega (arith, after)) (omega (arith, inside, number))
            (channels place old report inside_feeds ∙ ap channel (sym (feed_is old)) ∙ sym same ∙ sym (channels i f report inside))
