-- The two slots, and recovery where one of them is the newest.
use Rattle.std.proofs.Common.{◌≡◌, ◌≢◌, ℕ, ◌<◌, Bool, true, false, List, Option, None, Some, length, refl, ◌∙◌, ap, subst, arith}
use Rattle.std.specs.Prelude.{nat_lt, if◌then◌else◌}
use Rattle.std.proofs.lemmas.Bool.{lt-ltb, le-ltb}
use Rattle.r10_medium.specs.Disk.{Image, block_at}
use Rattle.r10_sector.specs.Held.{Held, Slot, AgreesBut, IsAmong, IsFitting, IsSized, number_of, put_slot, recovered, slot_of, with_slot}
use Rattle.r10_sector.specs.Sides.{opposite}
use Rattle.r10_sector.specs.declared.side.Side.{Side}
use Rattle.r10_sector.specs.declared.side.Side.TheVariants.{One, Two}
use Rattle.r10_sector.proofs.Placing.{put_agrees}

abbrev IsOne : Side → Type 0
IsOne One = Unit
IsOne Two = ⊥

abbrev IsTwo : Side → Type 0
IsTwo One = ⊥
IsTwo Two = Unit

pub opposite_differs : (s : Side) → opposite s ≢ s
opposite_differs One = λ e. subst IsTwo e tt
opposite_differs Two = λ e. subst IsOne e tt

pub opposite_twice : (s : Side) → opposite (opposite s) ≡ s
opposite_twice One = refl
opposite_twice Two = refl

pub both_sides : (P : Side → Type 0) (side : Side) → P side → P (opposite side) → (s : Side) → P s
both_sides P One here there One = here
both_sides P One here there Two = there
both_sides P Two here there One = there
both_sides P Two here there Two = here

pub with_this : (side : Side) (o : Option Slot) (h : Held) → slot_of side (with_slot side o h) ≡ o
with_this One o h = refl
with_this Two o h = refl

pub with_other : (side : Side) (o : Option Slot) (h : Held) → slot_of (opposite side) (with_slot side o h) ≡ slot_of (opposite side) h
with_other One o h = refl
with_other Two o h = refl

pub with_image : (side : Side) (o : Option Slot) (h : Held) → (with_slot side o h).image ≡ h.image
with_image One o h = refl
with_image Two o h = refl

pub slots_agree : (per : ℕ) (fs : List ℕ) (x y : Held) → AgreesBut per fs x y → (s : Side) → slot_of s y ≡ slot_of s x
slots_agree per fs x y agrees One = agrees.one
slots_agree per fs x y agrees Two = agrees.two

pub fitting_of : (per count : ℕ) (h : Held) → IsSized per count h → (s : Side) → IsFitting per count (slot_of s h)
fitting_of per count h sized One = sized.one
fitting_of per count h sized Two = sized.two

-- what agrees but in some sectors does so after a slot is put in both
pub slot_agrees : (per count : ℕ) (qs : List ℕ) (o : Option Slot) (a b : Image) → IsFitting per count o → length a ≡ count → length b ≡ count
    → ((n : ℕ) → (IsAmong per qs n → ⊥) → block_at b n ≡ block_at a n) → (n : ℕ) → (IsAmong per qs n → ⊥) → block_at (put_slot per o b) n ≡ block_at (put_slot per o a) n
slot_agrees per count qs None a b fits long_a long_b others n absent = others n absent
slot_agrees per count qs (Some s) a b fits long_a long_b others n absent = put_agrees per count qs s.firsts s.blocks a b fits.size fits.within long_a long_b others n absent

by_either : (b : Bool) (x y z : Image) → x ≡ z → y ≡ z → (if b then x else y) ≡ z
by_either true x y z ex ey = ex
by_either false x y z ex ey = ey

pub recovered_same : (per : ℕ) (h k : Held) → h.image ≡ k.image → ((s : Side) → slot_of s h ≡ slot_of s k) → recovered per h ≡ recovered per k
recovered_same per h k images slots =
    ap (λ (l : Image). recovered per (record { image = l; one = h.one; two = h.two })) images
    ∙ ap (λ (o : Option Slot). recovered per (record { image = k.image; one = o; two = h.two })) (slots One)
    ∙ ap (λ (o : Option Slot). recovered per (record { image = k.image; one = k.one; two = o })) (slots Two)

-- one slot is none
pub recovered_none : (per : ℕ) (side : Side) (h : Held) → slot_of side h ≡ None → recovered per h ≡ put_slot per (slot_of (opposite side) h) h.image
recovered_none per One h e = by_either (nat_lt (number_of h.one) (number_of h.two)) _ _ _
    (ap (λ (o : Option Slot). put_slot per h.two (put_slot per o h.image)) e)
    (ap (λ (o : Option Slot). put_slot per o (put_slot per h.two h.image)) e)
recovered_none per Two h e = by_either (nat_lt (number_of h.one) (number_of h.two)) _ _ _
    (ap (λ (o : Option Slot). put_slot per o (put_slot per h.one h.image)) e)
    (ap (λ (o : Option Slot). put_slot per h.one (put_slot per o h.image)) e)

-- one slot has the higher number
pub recovered_newest : (per : ℕ) (side : Side) (h : Held) → number_of (slot_of (opposite side) h) < number_of (slot_of side h)
    → recovered per h ≡ put_slot per (slot_of side h) (put_slot per (slot_of (opposite side) h) h.image)
recovered_newest per One h lt =
    ap (λ (b : Bool). if b then put_slot per h.two (put_slot per h.one h.image) else put_slot per h.one (put_slot per h.two h.image)) (le-ltb (number_of h.one) (number_of h.two) (omega (arith, lt)))
recovered_newest per Two h lt =
    ap (λ (b : Bool). if b then put_slot per h.two (put_slot per h.one h.image) else put_slot per h.one (put_slot per h.two h.image)) (lt-ltb (number_of h.one) (number_of h.two) lt)
