-- A device of sectors at one moment: what reads give, and what a power loss may leave.
use Rattle.std.specs.Prelude.{◌≡◌, ◌⊎◌, ℕ, ◌-◌, ◌%◌, ◌^◌, ◌<◌, ◌≤◌, Bool, true, length, Result, IsErr}
use Rattle.r10_medium.specs.Disk.{Rose}
use Rattle.r10_sector.specs.Held.{Held, IsSized}

-- `left h` says that a power loss now may leave this; `since t h`, that one at some moment from t on may have left it.
pub record Plate (per : ℕ) : Type 1 where
  pub now : Held
  pub left : Held → Type 0
  pub moment : ℕ
  pub since : ℕ → Held → Type 0
  pub failures : ℕ
  -- no write and no sync has failed since it was opened
  pub trusted : Bool
  -- what is read is among what a power loss may leave
  pub stands : left now
  pub sized : (h : Held) → left h → IsSized per (length now.image) h
  -- a power loss now is one of those since an earlier moment, and since now there is no other
  pub counts_now : (t : ℕ) (h : Held) → t ≤ moment → left h → since t h
  pub only_now : (h : Held) → since moment h → left h
  -- sectors have blocks, and all blocks lie in whole sectors
  pub some : 0 < per
  pub aligned : length now.image % per ≡ 0
  pub fits : length now.image < 2 ^ 64
  pub at_most : failures ≤ 2 ^ 64 - 1

-- an error has a failure of the device as its cause
pub record Rises {T E : Type 0} (before now : ℕ) (result : Result T E) : Type 0 where
  pub no_fewer : before ≤ now
  pub cause : IsErr result → Rose before now

-- Reads, and syncs that failed, change nothing: what a power loss leaves, then and since, is as before or less.
pub record Stays {per : ℕ} (old new : Plate per) : Type 0 where
  pub later : old.moment ≤ new.moment
  pub since : (t : ℕ) (h : Held) → t ≤ old.moment → new.since t h → old.since t h
  pub left : (h : Held) → new.left h → old.left h
  pub now : new.now ≡ old.now

-- a power loss leaves what is read
abbrev pub IsSure : {per : ℕ} → Plate per → Type 0
IsSure p = (h : Held) → p.left h → h ≡ p.now

-- A sync that succeeds is believed where no write and no sync failed before it: a system drops what it could not write, and
-- reads show it still.
abbrev pub MakesSure : {per : ℕ} → Plate per → Plate per → Type 0
MakesSure old new = old.trusted ≡ true → IsSure new

-- what could be left, changed by R
abbrev pub IsLeftChangedBy : {per : ℕ} → (Held → Held → Type 0) → Plate per → Held → Type 0
IsLeftChangedBy R p h = (from : Held) × p.left from × R from h

-- Writes, done or not: a power loss since old leaves what it could leave at old, changed by R.
pub record Changes {per : ℕ} (R : Held → Held → Type 0) (old new : Plate per) : Type 0 where
  pub later : old.moment ≤ new.moment
  pub since : (t : ℕ) (h : Held) → t ≤ old.moment → new.since t h → old.since t h ⊎ IsLeftChangedBy R old h
  pub left : (h : Held) → new.left h → IsLeftChangedBy R old h
  pub now : R old.now new.now
