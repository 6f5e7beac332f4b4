-- A batch that goes through the journal: what recovery makes of what a power loss leaves, at each step.
use Rattle.std.proofs.Common.{◌≡◌, ⊎_elim, inl, inr, ℕ, ◌+◌, ◌≤◌, List, Option, Some, length, refl, sym, ◌∙◌, ap, subst, arith}
use Rattle.r10_medium.specs.Disk.{Image, block_at}
use Rattle.r10_sector.specs.Held.{Held, Slot, AgreesBut, AgreesButSlot, AreSectors, IsAmong, IsFitting, number_of, put_sectors, put_slot, recovered, slot_of, with_slot}
use Rattle.r10_sector.specs.Plate.{Plate, Changes, IsLeftChangedBy, IsSure, Stays}
use Rattle.r10_sector.specs.Sides.{opposite}
use Rattle.r10_sector.specs.declared.side.Side.{Side}
use Rattle.r10_sector.proofs.Placing.{put_same}
use Rattle.r10_sector.proofs.Recovering.{slot_size}
use Rattle.r10_doublewrite.specs.Guarding.{RecoveryGives, IsBeforeOrAfter, IsGuarded}
use Rattle.r10_doublewrite.proofs.Sides.{opposite_differs, opposite_twice, both_sides, with_this, with_other, with_image, slots_agree, fitting_of, slot_agrees, recovered_same, recovered_none, recovered_newest}

pub gives_then_stays : {per : ℕ} (good : Image → Type 0) (a b c : Plate per) → RecoveryGives good a b → Stays b c → RecoveryGives good a c
gives_then_stays good a b c gives stays = record {
  later = omega (arith, gives.later, stays.later);
  since = λ t h le since. gives.since t h le (stays.since t h (omega (arith, le, gives.later)) since);
  left = λ h left. gives.left h (stays.left h left);
}

-- writes, and then a sync
pub changes_stay : {per : ℕ} (R : Held → Held → Type 0) (a b c : Plate per) → Changes R a b → Stays b c → Changes R a c
changes_stay R a b c changes stays = record {
  later = omega (arith, changes.later, stays.later);
  since = λ t h le since. changes.since t h le (stays.since t h (omega (arith, le, changes.later)) since);
  left = λ h left. changes.left h (stays.left h left);
  now = subst (R a.now) (sym stays.now) changes.now;
}

pub gives_then_changes : {per : ℕ} (good : Image → Type 0) (R : Held → Held → Type 0) (a c d : Plate per) → RecoveryGives good a c → Changes R c d
    → ((h : Held) → IsLeftChangedBy R c h → good (recovered per h)) → RecoveryGives good a d
gives_then_changes good R a c d gives changes settles = record {
  later = omega (arith, gives.later, changes.later);
  since = λ t h le since. ⊎_elim (λ was. gives.since t h le was) (λ from. inr (settles h from)) (changes.since t h (omega (arith, le, gives.later)) since);
  left = λ h left. inr (settles h (changes.left h left));
}

module _ {per : ℕ} (a : Plate per) (next : Side) (number : ℕ) (fs : List ℕ) (bs : Image) (ok : AreSectors per (length a.now.image) fs bs) (guard : IsGuarded a next number) where
  abbrev slot : Slot
  slot = record { number = number + 1; firsts = fs; blocks = bs }

  -- amid the write of the slot
  slot_settles : (h : Held) → IsLeftChangedBy (AgreesButSlot next (Some (record { number = number + 1; firsts = fs; blocks = bs }))) a h
      → IsBeforeOrAfter a.now.image (put_sectors per fs bs a.now.image) (recovered per h)
  slot_settles h from = ⊎_elim
      (λ same. inl (recovered_same per h from.0 from.2.image (both_sides (λ (s : Side). slot_of s h ≡ slot_of s from.0) next same other) ∙ guard.both from.0 from.1))
      (λ changed. ⊎_elim
      (λ none. inl (recovered_none per next h none ∙ newest))
      (λ new. inr (
      recovered_newest per next h (omega (arith, guard.highest from.0 from.1, ap number_of other, ap number_of new))
      ∙ ap (λ (o : Option Slot). put_slot per o (put_slot per (slot_of (opposite next) h) h.image)) new
      ∙ ap (put_sectors per fs bs) newest))
      changed)
      from.2.this
    where
      other : slot_of (opposite next) h ≡ slot_of (opposite next) from.0
      other = from.2.others (opposite next) (opposite_differs next)

      newest : put_slot per (slot_of (opposite next) h) h.image ≡ a.now.image
      newest = ap (λ (o : Option Slot). put_slot per o h.image) other ∙ ap (put_slot per (slot_of (opposite next) from.0)) from.2.image ∙ guard.newest from.0 from.1

  pub gives_slot : (b : Plate per) → Changes (AgreesButSlot next (Some (record { number = number + 1; firsts = fs; blocks = bs }))) a b
      → RecoveryGives (IsBeforeOrAfter a.now.image (put_sectors per fs bs a.now.image)) a b
  gives_slot b changes = record {
    later = changes.later;
    since = λ t h le since. ⊎_elim (λ was. inl was) (λ from. inr (slot_settles h from)) (changes.since t h le since);
    left = λ h left. inr (slot_settles h (changes.left h left));
  }

  -- the slot is durable, and the sectors are written in place
  module _ (start : Held) (is : start ≡ with_slot next (Some (record { number = number + 1; firsts = fs; blocks = bs })) a.now) (h : Held) (agrees : AgreesBut per fs start h) where
    this_slot : slot_of next h ≡ Some (record { number = number + 1; firsts = fs; blocks = bs })
    this_slot = slots_agree per fs start h agrees next ∙ ap (slot_of next) is ∙ with_this next (Some slot) a.now

    other_slot : slot_of (opposite next) h ≡ slot_of (opposite next) a.now
    other_slot = slots_agree per fs start h agrees (opposite next) ∙ ap (slot_of (opposite next)) is ∙ with_other next (Some slot) a.now

    start_image : start.image ≡ a.now.image
    start_image = ap (λ (k : Held). k.image) is ∙ with_image next (Some slot) a.now

    long : length h.image ≡ length a.now.image
    long = agrees.size ∙ ap length start_image

    others : (n : ℕ) → (IsAmong per fs n → ⊥) → block_at h.image n ≡ block_at a.now.image n
    others n absent = agrees.others n absent ∙ ap (λ (l : Image). block_at l n) start_image

    pub shows_target : put_sectors per fs bs h.image ≡ put_sectors per fs bs a.now.image
    shows_target = put_same per (length a.now.image) fs bs a.now.image h.image ok.size ok.within refl long others

    pub newest_gives : put_slot per (slot_of next h) h.image ≡ put_sectors per fs bs a.now.image
    newest_gives = ap (λ (o : Option Slot). put_slot per o h.image) this_slot ∙ shows_target

    pub number_is : number_of (slot_of next h) ≡ number + 1
    number_is = ap number_of this_slot

    pub both_give : recovered per h ≡ put_sectors per fs bs a.now.image
    both_give =
        recovered_newest per next h (omega (arith, number_is, ap number_of other_slot, guard.highest a.now a.stands))
        ∙ ap (λ (o : Option Slot). put_slot per o (put_slot per (slot_of (opposite next) h) h.image)) this_slot
        ∙ ap (λ (o : Option Slot). put_sectors per fs bs (put_slot per o h.image)) other_slot
        ∙ put_same per (length a.now.image) fs bs (put_slot per old a.now.image) (put_slot per old h.image) ok.size ok.within
        (slot_size per (length a.now.image) old a.now.image fits refl) (slot_size per (length a.now.image) old h.image fits long)
        (slot_agrees per (length a.now.image) fs old a.now.image h.image fits refl long others)
        ∙ ap (put_sectors per fs bs) (guard.newest a.now a.stands)
      where
        old : Option Slot
        old = slot_of (opposite next) a.now

        fits : IsFitting per (length a.now.image) old
        fits = fitting_of per (length a.now.image) a.now (a.sized a.now a.stands) (opposite next)

  module _ (c : Plate per) (is : c.now ≡ with_slot next (Some (record { number = number + 1; firsts = fs; blocks = bs })) a.now) (durable : IsSure c) where
    placing_settles : (h : Held) → IsLeftChangedBy (AgreesBut per fs) c h → IsBeforeOrAfter a.now.image (put_sectors per fs bs a.now.image) (recovered per h)
    placing_settles h from = inr (both_give from.0 (durable from.0 from.1 ∙ is) h from.2)

    pub gives_placed : (d : Plate per) → RecoveryGives (IsBeforeOrAfter a.now.image (put_sectors per fs bs a.now.image)) a c → Changes (AgreesBut per fs) c d
        → RecoveryGives (IsBeforeOrAfter a.now.image (put_sectors per fs bs a.now.image)) a d
    gives_placed d gives changes = gives_then_changes (IsBeforeOrAfter a.now.image (put_sectors per fs bs a.now.image)) (AgreesBut per fs) a c d gives changes placing_settles

    pub size_placed : (d : Plate per) → Changes (AgreesBut per fs) c d → length d.now.image ≡ length a.now.image
    size_placed d changes = changes.now.size ∙ ap (λ (k : Held). length k.image) is ∙ ap length (with_image next (Some slot) a.now)

    pub shows_placed : (d : Plate per) → Changes (AgreesBut per fs) c d → put_sectors per fs bs d.now.image ≡ put_sectors per fs bs a.now.image
    shows_placed d changes = shows_target c.now is d.now changes.now

    pub put_placed : (d : Plate per) → d.now.image ≡ put_sectors per fs bs c.now.image → d.now.image ≡ put_sectors per fs bs a.now.image
    put_placed d put = put ∙ ap (put_sectors per fs bs) (ap (λ (k : Held). k.image) is ∙ with_image next (Some slot) a.now)

    pub guarded_placed : (d : Plate per) → Changes (AgreesBut per fs) c d → d.now.image ≡ put_sectors per fs bs a.now.image → IsGuarded d (opposite next) (number + 1)
    guarded_placed d changes put = record {
      highest = λ h left. let from = changes.left h left in
          subst (λ (s : Side). number_of (slot_of s h) ≤ number + 1) (sym (opposite_twice next)) (omega (arith, number_is from.0 (durable from.0 from.1 ∙ is) h from.2));
      newest = λ h left. let from = changes.left h left in
          subst (λ (s : Side). put_slot per (slot_of s h) h.image ≡ d.now.image) (sym (opposite_twice next)) (newest_gives from.0 (durable from.0 from.1 ∙ is) h from.2 ∙ sym put);
      both = λ h left. let from = changes.left h left in both_give from.0 (durable from.0 from.1 ∙ is) h from.2 ∙ sym put;
    }
