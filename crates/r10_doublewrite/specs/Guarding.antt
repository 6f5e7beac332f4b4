-- What holds between two batches of a double write.
use Rattle.std.specs.Prelude.{◌≡◌, ◌⊎◌, ℕ, ◌≤◌}
use Rattle.r10_medium.specs.Disk.{Image}
use Rattle.r10_sector.specs.Held.{Held, number_of, put_slot, recovered, slot_of}
use Rattle.r10_sector.specs.Plate.{Plate}
use Rattle.r10_sector.specs.Sides.{opposite}
use Rattle.r10_sector.specs.declared.side.Side.{Side}

-- Whatever a power loss leaves, recovery of it gives what is read, with both slots or with the newest alone. That is the one
-- which is not written next, and has the highest number.
pub record IsGuarded {per : ℕ} (p : Plate per) (next : Side) (number : ℕ) : Type 0 where
  pub highest : (h : Held) → p.left h → number_of (slot_of (opposite next) h) ≤ number
  pub newest : (h : Held) → p.left h → put_slot per (slot_of (opposite next) h) h.image ≡ p.now.image
  pub both : (h : Held) → p.left h → recovered per h ≡ p.now.image

-- Whatever a power loss since old left, recovery of it gives one of these images, or what it could give before.
pub record RecoveryGives {per : ℕ} (good : Image → Type 0) (old new : Plate per) : Type 0 where
  pub later : old.moment ≤ new.moment
  pub since : (t : ℕ) (h : Held) → t ≤ old.moment → new.since t h → old.since t h ⊎ good (recovered per h)
  pub left : (h : Held) → new.left h → old.left h ⊎ good (recovered per h)

-- what was read before a batch, or after it
abbrev pub IsBeforeOrAfter : Image → Image → Image → Type 0
IsBeforeOrAfter before after image = (image ≡ before) ⊎ (image ≡ after)
