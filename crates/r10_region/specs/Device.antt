-- A disk that does operations in order, and what a power loss leaves of it.
use Rattle.std.specs.Prelude.{◌≡◌, ◌⊎◌, ℕ, suc, Bool, true, false, ◌<◌, ◌≤◌, List, [], ◌∷◌, ◌++◌, length, take, get_or, slice_set}
use Rattle.std.specs.Prelude.{refl}
use Rattle.std.proofs.Common.{arith, inl, inr, ap, sym, subst, ◌∙◌}
use Rattle.std.proofs.lemmas.Bool.{cases_lt, cases_eq}
use Rattle.std.proofs.lemmas.List.{length-set, get_or-set_same, get_or-set_other, set_past}
use Rattle.r10_medium.specs.Disk.{Image, Block, block_at, IsWhole, PicksEach}
use Rattle.r10_region.specs.declared.operation.Operation.{Operation as OperationValue}
use Rattle.r10_region.specs.declared.operation.Operation.TheVariants.{Write, Sync}

-- what is read, what was read after the last sync, and what was written since into which block, the last first
pub record Device : Type 0 where
  pub reads : Image
  pub synced : Image
  pub unsure : List (ℕ × Block)

abbrev pub at_rest : Image → Device
at_rest image = record { reads = image; synced = image; unsure = [] }

abbrev pub does : Device → OperationValue → Device
does d (Write n bytes) = record { reads = slice_set d.reads n bytes; synced = d.synced; unsure = (n, bytes) ∷ d.unsure }
does d Sync = record { reads = d.reads; synced = d.reads; unsure = [] }

abbrev pub does_all : Device → List OperationValue → Device
does_all d [] = d
does_all d (op ∷ ops) = does_all (does d op) ops

-- one that held this, after these operations
abbrev pub device_of : Image → List OperationValue → Device
device_of start ops = does_all (at_rest start) ops

-- this was written into block n
abbrev pub WasWritten : List (ℕ × Block) → ℕ → Block → Type 0
WasWritten [] n c = ⊥
WasWritten (w ∷ ws) n c = ((n ≡ w.0) × (c ≡ w.1)) ⊎ WasWritten ws n c

-- a power loss may leave this in block n: what was synced, or what was written there since
abbrev pub MayHold : Device → ℕ → Block → Type 0
MayHold d n c = (c ≡ block_at d.synced n) ⊎ WasWritten d.unsure n c

-- what a power loss leaves, in each block by itself
abbrev pub IsLeftOfDevice : Device → Image → Type 0
IsLeftOfDevice d image = PicksEach d.reads (MayHold d) image

-- What a power loss leaves of a disk that held `start`, after one of these operations, of which it has done t or more.
pub record IsLeftSince (start : Image) (ops : List OperationValue) (t : ℕ) (image : Image) : Type 0 where
  pub done : ℕ
  pub later : t ≤ done
  pub within : done ≤ length ops
  pub left : IsLeftOfDevice (device_of start (take done ops)) image

-- how many bytes are written
abbrev pub written_size : OperationValue → ℕ
written_size (Write n bytes) = length bytes
written_size Sync = 512

-- whole blocks are written
abbrev pub AreWhole : List OperationValue → Type 0
AreWhole ops = (i : ℕ) → i < length ops → written_size (get_or ops i Sync) ≡ 512

-- one operation more where it was queued, and where it was done
abbrev pub told_if : Bool → OperationValue → List OperationValue → List OperationValue
told_if true op ops = ops ++ op ∷ []
told_if false op ops = ops

abbrev pub put_if : Bool → ℕ → Block → Image → Image
put_if true n bytes blocks = slice_set blocks n bytes
put_if false n bytes blocks = blocks

-- ---- laws

pub does_more : (d : Device) (ops : List OperationValue) (op : OperationValue)
    → does_all d (ops ++ op ∷ []) ≡ does (does_all d ops) op
does_more d [] op = refl
does_more d (o ∷ ops) op = does_more (does d o) ops op

-- what is read is among what a power loss may leave, and nothing is torn
pub record IsSoundDevice (d : Device) : Type 0 where
  pub size : length d.synced ≡ length d.reads
  pub stands : (n : ℕ) → MayHold d n (block_at d.reads n)

pub rest_is_sound : (image : Image) → IsSoundDevice (at_rest image)
rest_is_sound image = record { size = refl; stands = λ n. inl refl }

-- what a power loss might leave it may leave after one more write
pub still_held : (d : Device) (n k : ℕ) (bytes c : Block) → MayHold d n c → MayHold (does d (Write k bytes)) n c
still_held d n k bytes c (inl e) = inl e
still_held d n k bytes c (inr w) = inr (inr w)

pub stands_written : (d : Device) (n k : ℕ) (bytes : Block) → MayHold d n (block_at d.reads n)
    → MayHold (does d (Write k bytes)) n (block_at (slice_set d.reads k bytes) n)
stands_written d n k bytes holds = elim (cases_eq n k) [
  | inl same ↦ elim (cases_lt k (length d.reads)) [
    | inl less ↦ inr (inl (
      same,
      ap (λ (m : ℕ). block_at (slice_set d.reads k bytes) m) same
          ∙ get_or-set_same d.reads k bytes [] less,
    ))
    | inr more ↦ still_held d n k bytes _ (subst (λ (l : Image). MayHold d n (block_at l n))
        (sym (set_past d.reads k bytes more)) holds)
  ]
  | inr other ↦ still_held d n k bytes _ (subst (MayHold d n) (sym (get_or-set_other d.reads k n bytes [] other)) holds)
]

pub one_more_sound : (d : Device) (op : OperationValue) → IsSoundDevice d → IsSoundDevice (does d op)
one_more_sound d (Write k bytes) s = record {
  size = s.size ∙ sym (length-set d.reads k bytes);
  stands = λ n. stands_written d n k bytes (s.stands n);
}
one_more_sound d Sync s = record { size = refl; stands = λ n. inl refl }

pub all_sound : (d : Device) (ops : List OperationValue) → IsSoundDevice d → IsSoundDevice (does_all d ops)
all_sound d [] s = s
all_sound d (op ∷ ops) s = all_sound (does d op) ops (one_more_sound d op s)

-- what a power loss may leave is whole
abbrev pub HoldsWhole : Device → Type 0
HoldsWhole d = (n : ℕ) (c : Block) → n < length d.reads → MayHold d n c → length c ≡ 512

pub one_more_whole : (d : Device) (op : OperationValue) → IsSoundDevice d → written_size op ≡ 512 → HoldsWhole d
    → HoldsWhole (does d op)
one_more_whole d (Write k bytes) s is holds n c lt (inl e) = holds n c (omega (arith, lt, length-set d.reads k bytes)) (inl e)
one_more_whole d (Write k bytes) s is holds n c lt (inr (inl w)) = ap length w.1 ∙ is
one_more_whole d (Write k bytes) s is holds n c lt (inr (inr w)) = holds n c (omega (arith, lt, length-set d.reads k bytes)) (inr w)
one_more_whole d Sync s is holds n c lt (inl e) = holds n c lt (subst (MayHold d n) (sym e) (s.stands n))
one_more_whole d Sync s is holds n c lt (inr w) = absurd w

pub all_whole : (d : Device) (ops : List OperationValue) → IsSoundDevice d → AreWhole ops → HoldsWhole d
    → HoldsWhole (does_all d ops)
all_whole d [] s are holds = holds
all_whole d (op ∷ ops) s are holds = all_whole (does d op) ops (one_more_sound d op s) (λ i lt. are (suc i) (omega (arith, lt)))
    (one_more_whole d op s (are 0 (omega arith)) holds)

pub rest_is_whole : (image : Image) → IsWhole image → HoldsWhole (at_rest image)
rest_is_whole image whole n c lt (inl e) = ap length e ∙ whole n lt
rest_is_whole image whole n c lt (inr w) = absurd w
