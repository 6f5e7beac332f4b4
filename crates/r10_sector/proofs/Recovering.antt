-- What recovery makes of what a device holds.
use Rattle.std.proofs.Common.{◌≡◌, ℕ, Bool, true, false, Option, None, Some, length}
use Rattle.std.specs.Prelude.{nat_lt, if◌then◌else◌}
use Rattle.r10_medium.specs.Disk.{Image, IsWhole}
use Rattle.r10_sector.specs.Held.{Held, Slot, IsFitting, IsSized, number_of, put_slot, recovered}
use Rattle.r10_sector.proofs.Placing.{length_put, whole_put}

-- one of the two orders, by which is which
pub in_order : (P : Image → Type 0) (b : Bool) (x y : Image) → P x → P y → P (if b then x else y)
in_order P true x y px py = px
in_order P false x y px py = py

module _ (per count : ℕ) where
  pub slot_size : (s : Option Slot) (a : Image) → IsFitting per count s → length a ≡ count → length (put_slot per s a) ≡ count
  slot_size None a fit long = long
  slot_size (Some s) a fit long = length_put per count s.firsts s.blocks a fit.size fit.within long

  pub slot_whole : (s : Option Slot) (a : Image) → IsFitting per count s → length a ≡ count → IsWhole a → IsWhole (put_slot per s a)
  slot_whole None a fit long whole = whole
  slot_whole (Some s) a fit long whole = whole_put per count s.firsts s.blocks a fit.size fit.within long fit.whole whole

  pub recovered_size : (h : Held) → IsSized per count h → length (recovered per h) ≡ count
  recovered_size h sized = in_order (λ (l : Image). length l ≡ count) (nat_lt (number_of h.one) (number_of h.two)) _ _
      (slot_size h.two _ sized.two (slot_size h.one h.image sized.one sized.size))
      (slot_size h.one _ sized.one (slot_size h.two h.image sized.two sized.size))

  pub recovered_whole : (h : Held) → IsSized per count h → IsWhole (recovered per h)
  recovered_whole h sized = in_order IsWhole (nat_lt (number_of h.one) (number_of h.two)) _ _
      (slot_whole h.two _ sized.two (slot_size h.one h.image sized.one sized.size) (slot_whole h.one h.image sized.one sized.size sized.whole))
      (slot_whole h.one _ sized.one (slot_size h.two h.image sized.two sized.size) (slot_whole h.two h.image sized.two sized.size sized.whole))
