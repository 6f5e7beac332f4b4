-- Recovery: both slots put in place, the older first.
use Rattle.std.proofs.Common.{◌≡◌, ⊎_elim, inl, inr, ℕ, ◌≤◌, Bool, List, [], ◌∷◌, ◌++◌, Option, None, Some, length, ext_get_or, refl, sym, ◌∙◌, ap, subst, arith}
use Rattle.std.specs.Prelude.{if◌then◌else◌}
use Rattle.std.proofs.lemmas.Bool.{lt-ltb, le-ltb}
use Rattle.r10_medium.specs.Disk.{Image, block_at}
use Rattle.r10_sector.specs.Held.{Held, Slot, AgreesBut, IsAmong, IsFitting, number_of, put_slot, recovered, slot_of}
use Rattle.r10_sector.specs.Plate.{Plate, Changes, IsLeftChangedBy, IsSure}
use Rattle.r10_sector.specs.Sides.{opposite}
use Rattle.r10_sector.specs.declared.side.Side.{Side}
use Rattle.r10_sector.specs.declared.side.Side.TheVariants.{One, Two}
use Rattle.r10_sector.proofs.Placing.{put_same, put_or_kept, put_others}
use Rattle.r10_sector.proofs.Recovering.{slot_size}
use Rattle.r10_doublewrite.specs.Guarding.{RecoveryGives, IsGuarded}
use Rattle.r10_doublewrite.specs.Opening.{firsts_in, IsNewest}
use Rattle.r10_doublewrite.proofs.Lasting.{among_split}
use Rattle.r10_doublewrite.proofs.Sides.{opposite_twice, slots_agree, fitting_of}

absent_left : (per n : ℕ) (xs ys : List ℕ) → (IsAmong per (xs ++ ys) n → ⊥) → IsAmong per xs n → ⊥
absent_left per n [] ys absent none = none
absent_left per n (x ∷ xs) ys absent (inl here) = absent (inl here)
absent_left per n (x ∷ xs) ys absent (inr there) = absent_left per n xs ys (λ among. absent (inr among)) there

absent_both : (per n : ℕ) (xs ys : List ℕ) → (IsAmong per xs n → ⊥) → (IsAmong per ys n → ⊥) → IsAmong per (xs ++ ys) n → ⊥
absent_both per n xs ys left right among = ⊎_elim left right (among_split per n xs ys among)

agrees_twice : (per : ℕ) (xs ys : List ℕ) (a b c : Held) → AgreesBut per xs a b → AgreesBut per ys b c → AgreesBut per (xs ++ ys) a c
agrees_twice per xs ys a b c first second = record {
  size = second.size ∙ first.size;
  others = λ n absent. second.others n (λ among. absent_right per n xs ys absent among) ∙ first.others n (absent_left per n xs ys absent);
  one = second.one ∙ first.one;
  two = second.two ∙ first.two;
}
  where
    absent_right : (per n : ℕ) (xs ys : List ℕ) → (IsAmong per (xs ++ ys) n → ⊥) → IsAmong per ys n → ⊥
    absent_right per n [] ys absent among = absent among
    absent_right per n (x ∷ xs) ys absent among = absent_right per n xs ys (λ m. absent (inr m)) among

-- writes in some sectors, and then in others
pub changes_twice : {per : ℕ} (xs ys : List ℕ) (a b c : Plate per) → Changes (AgreesBut per xs) a b → Changes (AgreesBut per ys) b c → Changes (AgreesBut per (xs ++ ys)) a c
changes_twice {per = per} xs ys a b c first second = record {
  later = omega (arith, first.later, second.later);
  since = λ t h le since. ⊎_elim
      (λ was. ⊎_elim (λ before. inl before) (λ from. inr (from.0, from.1, widened from.0 h from.2)) (first.since t h le was))
      (λ from. inr (onto h from))
      (second.since t h (omega (arith, le, first.later)) since);
  left = λ h left. onto h (second.left h left);
  now = agrees_twice per xs ys a.now b.now c.now first.now second.now;
}
  where
    same : (h : Held) → AgreesBut per ys h h
    same h = record { size = refl; others = λ n absent. refl; one = refl; two = refl }

    widened : (x y : Held) → AgreesBut per xs x y → AgreesBut per (xs ++ ys) x y
    widened x y agrees = agrees_twice per xs ys x y y agrees (same y)

    onto : (h : Held) → IsLeftChangedBy (AgreesBut per ys) b h → IsLeftChangedBy (AgreesBut per (xs ++ ys)) a h
    onto h from = let before = first.left from.0 from.1 in (before.0, before.1, agrees_twice per xs ys before.0 from.0 h before.2 from.2)

-- the first writes were not all done
pub changes_first : {per : ℕ} (xs ys : List ℕ) (a b : Plate per) → Changes (AgreesBut per xs) a b → Changes (AgreesBut per (xs ++ ys)) a b
changes_first {per = per} xs ys a b first = record {
  later = first.later;
  since = λ t h le since. ⊎_elim (λ was. inl was) (λ from. inr (from.0, from.1, widened from.0 h from.2)) (first.since t h le since);
  left = λ h left. let from = first.left h left in (from.0, from.1, widened from.0 h from.2);
  now = widened a.now b.now first.now;
}
  where
    widened : (x y : Held) → AgreesBut per xs x y → AgreesBut per (xs ++ ys) x y
    widened x y agrees = agrees_twice per xs ys x y y agrees (record { size = refl; others = λ n absent. refl; one = refl; two = refl })

module _ (per count : ℕ) (o n : Option Slot) (fits_o : IsFitting per count o) (fits_n : IsFitting per count n) (a b : Image) (long_a : length a ≡ count) (long_b : length b ≡ count)
    (others : (k : ℕ) → (IsAmong per (firsts_in o ++ firsts_in n) k → ⊥) → block_at b k ≡ block_at a k) where
  older_agrees : (o : Option Slot) → IsFitting per count o → ((k : ℕ) → (IsAmong per (firsts_in o ++ firsts_in n) k → ⊥) → block_at b k ≡ block_at a k)
      → (k : ℕ) → (IsAmong per (firsts_in n) k → ⊥) → block_at (put_slot per o b) k ≡ block_at (put_slot per o a) k
  older_agrees None fits others k absent = others k absent
  older_agrees (Some s) fits others k absent = elim (put_or_kept per count s.firsts s.blocks k fits.size fits.within) [
    | inl put ↦ put.1.1 b long_b ∙ sym (put.1.1 a long_a)
    | inr kept ↦ kept.1 b long_b ∙ others k (absent_both per k s.firsts (firsts_in n) kept.0 absent) ∙ sym (kept.1 a long_a)
  ]

  newer_same : (n : Option Slot) → IsFitting per count n → (x y : Image) → length x ≡ count → length y ≡ count → ((k : ℕ) → (IsAmong per (firsts_in n) k → ⊥) → block_at y k ≡ block_at x k)
      → put_slot per n y ≡ put_slot per n x
  newer_same None fits x y long_x long_y agree = ext_get_or [] y x (long_y ∙ sym long_x) (λ k lt. agree k (λ none. none))
  newer_same (Some s) fits x y long_x long_y agree = put_same per count s.firsts s.blocks x y fits.size fits.within long_x long_y agree

  -- both slots put over what agrees but in their sectors
  pub both_same : put_slot per n (put_slot per o b) ≡ put_slot per n (put_slot per o a)
  both_same = newer_same n fits_n (put_slot per o a) (put_slot per o b) (slot_size per count o a fits_o long_a) (slot_size per count o b fits_o long_b) (older_agrees o fits_o others)

-- the newer slot put again changes nothing
pub put_again : (per count : ℕ) (n : Option Slot) (a : Image) → IsFitting per count n → length a ≡ count → put_slot per n (put_slot per n a) ≡ put_slot per n a
put_again per count None a fits long = refl
put_again per count (Some s) a fits long =
    put_same per count s.firsts s.blocks a (put_slot per (Some s) a) fits.size fits.within long (slot_size per count (Some s) a fits long)
    (put_others per count s.firsts s.blocks a fits.size fits.within long)

-- which slot recovery puts in place last
pub recovered_by : (per : ℕ) (side : Side) (h : Held) → IsNewest side h → recovered per h ≡ put_slot per (slot_of side h) (put_slot per (slot_of (opposite side) h) h.image)
recovered_by per One h newest =
    ap (λ (b : Bool). if b then put_slot per h.two (put_slot per h.one h.image) else put_slot per h.one (put_slot per h.two h.image)) (le-ltb (number_of h.one) (number_of h.two) newest)
recovered_by per Two h newest =
    ap (λ (b : Bool). if b then put_slot per h.two (put_slot per h.one h.image) else put_slot per h.one (put_slot per h.two h.image)) (lt-ltb (number_of h.one) (number_of h.two) newest)

newest_same : (side : Side) (h k : Held) → k.one ≡ h.one → k.two ≡ h.two → IsNewest side h → IsNewest side k
newest_same One h k one two newest = omega (arith, newest, ap number_of one, ap number_of two)
newest_same Two h k one two newest = omega (arith, newest, ap number_of one, ap number_of two)

-- both slots are put in place, of a device whose power loss leaves what is read
module _ {per : ℕ} (p : Plate per) (side : Side) (newest : IsNewest side p.now) where
  abbrev newer : Option Slot
  newer = slot_of side p.now

  abbrev older : Option Slot
  older = slot_of (opposite side) p.now

  fits : (s : Side) → IsFitting per (length p.now.image) (slot_of s p.now)
  fits = fitting_of per (length p.now.image) p.now (p.sized p.now p.stands)

  -- amid that
  pub settling : (h : Held) → AgreesBut per (firsts_in (slot_of (opposite side) p.now) ++ firsts_in (slot_of side p.now)) p.now h → recovered per h ≡ recovered per p.now
  settling h agrees =
      recovered_by per side h (newest_same side p.now h agrees.one agrees.two newest)
      ∙ ap (λ (o : Option Slot). put_slot per o (put_slot per (slot_of (opposite side) h) h.image)) (slots_agree per (firsts_in older ++ firsts_in newer) p.now h agrees side)
      ∙ ap (λ (o : Option Slot). put_slot per newer (put_slot per o h.image)) (slots_agree per (firsts_in older ++ firsts_in newer) p.now h agrees (opposite side))
      ∙ both_same per (length p.now.image) older newer (fits (opposite side)) (fits side) p.now.image h.image refl agrees.size agrees.others
      ∙ sym (recovered_by per side p.now newest)

  pub settling_gives : IsSure p → (d : Plate per) → Changes (AgreesBut per (firsts_in (slot_of (opposite side) p.now) ++ firsts_in (slot_of side p.now))) p d
      → RecoveryGives (λ (image : Image). image ≡ recovered per p.now) p d
  settling_gives durable d changes = record {
    later = changes.later;
    since = λ t h le since. ⊎_elim (λ was. inl was) (λ from. inr (settled h from)) (changes.since t h le since);
    left = λ h left. inr (settled h (changes.left h left));
  }
    where
      settled : (h : Held) → IsLeftChangedBy (AgreesBut per (firsts_in older ++ firsts_in newer)) p h → recovered per h ≡ recovered per p.now
      settled h from = settling h (subst (λ (k : Held). AgreesBut per (firsts_in older ++ firsts_in newer) k h) (durable from.0 from.1) from.2)

  pub settled_reads : (d : Plate per) → d.now.image ≡ put_slot per (slot_of side p.now) (put_slot per (slot_of (opposite side) p.now) p.now.image) → d.now.image ≡ recovered per p.now
  settled_reads d put = put ∙ sym (recovered_by per side p.now newest)

  pub settled_guarded : (d e : Plate per) → Changes (AgreesBut per (firsts_in (slot_of (opposite side) p.now) ++ firsts_in (slot_of side p.now))) p d
      → d.now.image ≡ put_slot per (slot_of side p.now) (put_slot per (slot_of (opposite side) p.now) p.now.image) → e.now ≡ d.now → IsSure e
      → IsGuarded e (opposite side) (number_of (slot_of side p.now))
  settled_guarded d e changes put now durable = record {
    highest = λ h left. subst (λ (s : Side). number_of (slot_of s h) ≤ number_of newer) (sym (opposite_twice side)) (omega (arith, ap number_of (this h left)));
    newest = λ h left. subst (λ (s : Side). put_slot per (slot_of s h) h.image ≡ e.now.image) (sym (opposite_twice side))
        (ap (λ (o : Option Slot). put_slot per o h.image) (this h left)
        ∙ ap (put_slot per newer) (reads h left)
        ∙ put_again per (length p.now.image) newer (put_slot per older p.now.image) (fits side) (slot_size per (length p.now.image) older p.now.image (fits (opposite side)) refl)
        ∙ sym put ∙ ap (λ (k : Held). k.image) (sym now));
    both = λ h left. settling h (subst (AgreesBut per (firsts_in older ++ firsts_in newer) p.now) (sym (durable h left ∙ now)) changes.now)
        ∙ sym (settled_reads d put) ∙ ap (λ (k : Held). k.image) (sym now);
  }
    where
      this : (h : Held) → e.left h → slot_of side h ≡ slot_of side p.now
      this h left = ap (slot_of side) (durable h left ∙ now) ∙ slots_agree per (firsts_in older ++ firsts_in newer) p.now d.now changes.now side

      reads : (h : Held) → e.left h → h.image ≡ put_slot per newer (put_slot per older p.now.image)
      reads h left = ap (λ (k : Held). k.image) (durable h left ∙ now) ∙ put
