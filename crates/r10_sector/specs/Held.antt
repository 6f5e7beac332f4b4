-- What a device of sectors holds, and what recovery makes of it. A sector is named by its first block.
use Rattle.std.specs.Prelude.{◌≡◌, ◌≢◌, ◌⊎◌, ℕ, ◌+◌, ◌*◌, ◌%◌, ◌<◌, ◌≤◌, List, [], ◌∷◌, length, take, drop, Option, None, Some}
use Rattle.std.specs.Prelude.{slice_index, nat_lt, if◌then◌else◌}
use Rattle.r10_medium.specs.Disk.{Image, block_at, IsWhole}
use Rattle.r10_medium.specs.PowerLoss.{put_blocks}
use Rattle.r10_sector.specs.declared.side.Side.{Side}
use Rattle.r10_sector.specs.declared.side.Side.TheVariants.{One, Two}

-- What a slot holds: its number in sequence, the first block of each sector in it, and the sectors' blocks, end to end.
pub record Slot : Type 0 where
  pub number : ℕ
  pub firsts : List ℕ
  pub blocks : Image

-- The blocks, and the two slots beside them. A slot that was torn, or never written, is none.
pub record Held : Type 0 where
  pub image : Image
  pub one : Option Slot
  pub two : Option Slot

abbrev pub slot_of : Side → Held → Option Slot
slot_of One h = h.one
slot_of Two h = h.two

abbrev pub with_slot : Side → Option Slot → Held → Held
with_slot One s h = record { image = h.image; one = s; two = h.two }
with_slot Two s h = record { image = h.image; one = h.one; two = s }

-- the block lies in one of the sectors that begin there
abbrev pub IsAmong : ℕ → List ℕ → ℕ → Type 0
IsAmong per [] n = ⊥
IsAmong per (f ∷ fs) n = ((f ≤ n) × (n < f + per)) ⊎ IsAmong per fs n

-- Sectors put in place, one after the other: `per` blocks each.
abbrev pub put_sectors : ℕ → List ℕ → Image → Image → Image
put_sectors per [] blocks image = image
put_sectors per (f ∷ fs) blocks image = put_sectors per fs (drop per blocks) (put_blocks image f (take per blocks))

abbrev pub put_slot : ℕ → Option Slot → Image → Image
put_slot per None image = image
put_slot per (Some s) image = put_sectors per s.firsts s.blocks image

abbrev pub number_of : Option Slot → ℕ
number_of None = 0
number_of (Some s) = s.number

-- both slots put in place, that with the lower number first
abbrev pub recovered : ℕ → Held → Image
recovered per h =
    (if nat_lt (number_of h.one) (number_of h.two)
    then put_slot per h.two (put_slot per h.one h.image)
    else put_slot per h.one (put_slot per h.two h.image))

-- Whole sectors among so many blocks.
pub record AreSectors (per count : ℕ) (firsts : List ℕ) (blocks : Image) : Type 0 where
  pub size : length blocks ≡ per * length firsts
  pub within : (i : ℕ) → i < length firsts → slice_index firsts i + per ≤ count
  pub aligned : (i : ℕ) → i < length firsts → slice_index firsts i % per ≡ 0
  pub whole : IsWhole blocks

abbrev pub IsFitting : ℕ → ℕ → Option Slot → Type 0
IsFitting per count None = Unit
IsFitting per count (Some s) = AreSectors per count s.firsts s.blocks

-- So many whole blocks, and slots of whole sectors among them.
pub record IsSized (per count : ℕ) (h : Held) : Type 0 where
  pub size : length h.image ≡ count
  pub whole : IsWhole h.image
  pub one : IsFitting per count h.one
  pub two : IsFitting per count h.two

-- the same but in these sectors
pub record AgreesBut (per : ℕ) (firsts : List ℕ) (old new : Held) : Type 0 where
  pub size : length new.image ≡ length old.image
  pub others : (n : ℕ) → (IsAmong per firsts n → ⊥) → block_at new.image n ≡ block_at old.image n
  pub one : new.one ≡ old.one
  pub two : new.two ≡ old.two

-- the same but that this slot is as before, or none, or this
pub record AgreesButSlot (side : Side) (slot : Option Slot) (old new : Held) : Type 0 where
  pub image : new.image ≡ old.image
  pub others : (s : Side) → s ≢ side → slot_of s new ≡ slot_of s old
  pub this : (slot_of side new ≡ slot_of side old) ⊎ ((slot_of side new ≡ None) ⊎ (slot_of side new ≡ slot))
