-- One operation more for the disk.
use Rattle.std.proofs.Common.{◌≡◌, ◌⊎◌, ℕ, ◌^◌, ◌<◌, ◌≤◌, Bool, true, false, List, [], ◌∷◌, ◌++◌, length, slice_set, inl, inr, refl, sym, ap, subst, arith, ◌∙◌}
use Rattle.std.proofs.lemmas.Bool.{cases_lt}
use Rattle.std.proofs.lemmas.List.{take_all, take-append-le, length_push, length-set, get_or_append_left, get_or_push}
use Rattle.r10_medium.specs.Disk.{Image, Block, block_at, MayPut, PicksEach}
use Rattle.r10_region.specs.Device.{Device, device_of, at_rest, does, does_more, MayHold, IsLeftOfDevice, IsLeftSince, AreWhole, written_size, told_if, put_if}
use Rattle.r10_region.specs.RegionDisk.{read_stands}
use Rattle.r10_region.specs.declared.operation.Operation.{Operation as OperationValue}
use Rattle.r10_region.specs.declared.operation.Operation.TheVariants.{Write, Sync}

pub still_whole : (b : Bool) (op : OperationValue) (ops : List OperationValue) → written_size op ≡ 512 → AreWhole ops → AreWhole (told_if b op ops)
still_whole false op ops is are i lt = are i lt
still_whole true op ops is are i lt = elim (cases_lt i (length ops)) [
  | inl less ↦ ap written_size (get_or_append_left ops (op ∷ []) Sync i less) ∙ are i less
  | inr more ↦ ap written_size (get_or_push ops op Sync i (omega (arith, lt, more, length_push ops op))) ∙ is
]

pub no_fewer : (b : Bool) (op : OperationValue) (ops : List OperationValue) → length ops ≤ length (told_if b op ops)
no_fewer false op ops = omega arith
no_fewer true op ops = omega (arith, length_push ops op)

module _ (start : Image) (ops : List OperationValue) (blocks : Image) (reads : (device_of start ops).reads ≡ blocks) where
  pub synced_reads : (b : Bool) → (device_of start (told_if b Sync ops)).reads ≡ blocks
  synced_reads false = reads
  synced_reads true = ap (λ (d : Device). d.reads) (does_more (at_rest start) ops Sync) ∙ reads

  pub written_reads : (b : Bool) (n : ℕ) (bytes : Block) → (device_of start (told_if b (Write n bytes) ops)).reads ≡ put_if b n bytes blocks
  written_reads false n bytes = reads
  written_reads true n bytes = ap (λ (d : Device). d.reads) (does_more (at_rest start) ops (Write n bytes)) ∙ ap (λ (l : Image). slice_set l n bytes) reads

  synced_holds : (k : ℕ) (c : Block) → MayHold (does (device_of start ops) Sync) k c → c ≡ block_at blocks k
  synced_holds k c (inl e) = e ∙ ap (λ (l : Image). block_at l k) reads
  synced_holds k c (inr w) = absurd w

  pub durable : (k : ℕ) (c : Block) → MayHold (device_of start (told_if true Sync ops)) k c → c ≡ block_at blocks k
  durable k c holds = synced_holds k c (subst (λ (d : Device). MayHold d k c) (does_more (at_rest start) ops Sync) holds)

  pub held_before : (b : Bool) (k : ℕ) (c : Block) → MayHold (device_of start (told_if b Sync ops)) k c → MayHold (device_of start ops) k c
  held_before false k c holds = holds
  held_before true k c holds = subst (MayHold (device_of start ops) k) (sym (durable k c holds)) (read_stands start ops blocks reads k)

  pub written_held : (b : Bool) (n k : ℕ) (bytes c : Block) → MayHold (device_of start (told_if b (Write n bytes) ops)) k c → MayHold (device_of start ops) k c ⊎ ((k ≡ n) × (c ≡ bytes))
  written_held false n k bytes c holds = inl holds
  written_held true n k bytes c holds = split (subst (λ (d : Device). MayHold d k c) (does_more (at_rest start) ops (Write n bytes)) holds)
    where
      split : MayHold (does (device_of start ops) (Write n bytes)) k c → MayHold (device_of start ops) k c ⊎ ((k ≡ n) × (c ≡ bytes))
      split (inl e) = inl (inl e)
      split (inr (inl w)) = inr w
      split (inr (inr w)) = inl (inr w)

  -- what a power loss left after one of the operations before, or after all
  left_before : (op : OperationValue) (t : ℕ) (image : Image) → IsLeftSince start (ops ++ op ∷ []) t image
      → IsLeftSince start ops t image ⊎ IsLeftOfDevice (device_of start (ops ++ op ∷ [])) image
  left_before op t image s = elim (cases_lt (length ops) s.done) [
    | inl less ↦ inr (subst (λ (l : List OperationValue). IsLeftOfDevice (device_of start l) image) (take_all s.done (ops ++ op ∷ []) (omega (arith, less, length_push ops op))) s.left)
    | inr more ↦ inl (record {
      done = s.done;
      later = s.later;
      within = more;
      left = subst (λ (l : List OperationValue). IsLeftOfDevice (device_of start l) image) (take-append-le s.done ops (op ∷ []) more) s.left;
    })
  ]

  pub synced_since : (b : Bool) (t : ℕ) (image : Image) → t ≤ length ops → IsLeftSince start (told_if b Sync ops) t image → IsLeftSince start ops t image
  synced_since false t image le s = s
  synced_since true t image le s = elim (left_before Sync t image s) [
    | inl before ↦ before
    | inr left ↦ record {
      done = length ops;
      later = le;
      within = omega arith;
      left = subst (λ (l : List OperationValue). IsLeftOfDevice (device_of start l) image) (sym (take_all (length ops) ops (omega arith))) (record {
        size = left.size ∙ ap length (synced_reads true ∙ sym reads);
        each = λ n lt. held_before true n (block_at image n) (left.each n (omega (arith, lt, ap length (synced_reads true ∙ sym reads))));
      });
    }
  ]

  pub written_since : (b : Bool) (n : ℕ) (bytes : Block) (t : ℕ) (image : Image) → t ≤ length ops → IsLeftSince start (told_if b (Write n bytes) ops) t image
      → IsLeftSince start ops t image ⊎ PicksEach (put_if b n bytes blocks) (MayHold (device_of start (told_if b (Write n bytes) ops))) image
  written_since false n bytes t image le s = inl s
  written_since true n bytes t image le s = elim (left_before (Write n bytes) t image s) [
    | inl before ↦ inl before
    | inr left ↦ inr (subst (λ (l : Image). PicksEach l (MayHold (device_of start (told_if true (Write n bytes) ops))) image) (written_reads true n bytes) left)
  ]

pub size_stays : (b : Bool) (n : ℕ) (bytes : Block) (blocks : Image) → length (put_if b n bytes blocks) ≡ length blocks
size_stays false n bytes blocks = refl
size_stays true n bytes blocks = length-set blocks n bytes

pub put_or_not : (b : Bool) (n : ℕ) (bytes : Block) (blocks : Image) → MayPut n bytes blocks (put_if b n bytes blocks)
put_or_not false n bytes blocks = inl refl
put_or_not true n bytes blocks = inr refl

-- a sync, by what was queued
module _ (start : Image) (ops ops2 : List OperationValue) (blocks : Image) (reads : (device_of start ops).reads ≡ blocks) (b : Bool) (is : ops2 ≡ told_if b Sync ops) where
  pub reads_still : (device_of start ops2).reads ≡ blocks
  reads_still = subst (λ (l : List OperationValue). (device_of start l).reads ≡ blocks) (sym is) (synced_reads start ops blocks reads b)

  pub whole_still : AreWhole ops → AreWhole ops2
  whole_still are = subst AreWhole (sym is) (still_whole b Sync ops refl are)

  pub later : length ops ≤ length ops2
  later = subst (λ (l : List OperationValue). length ops ≤ length l) (sym is) (no_fewer b Sync ops)

  pub since : (t : ℕ) (image : Image) → t ≤ length ops → IsLeftSince start ops2 t image → IsLeftSince start ops t image
  since t image le s = synced_since start ops blocks reads b t image le (subst (λ (l : List OperationValue). IsLeftSince start l t image) is s)

  pub held : (k : ℕ) (c : Block) → MayHold (device_of start ops2) k c → MayHold (device_of start ops) k c
  held k c holds = held_before start ops blocks reads b k c (subst (λ (l : List OperationValue). MayHold (device_of start l) k c) is holds)

  pub is_sure : b ≡ true → (k : ℕ) (c : Block) → MayHold (device_of start ops2) k c → c ≡ block_at blocks k
  is_sure reported k c holds = durable start ops blocks reads k c
      (subst (λ (a : Bool). MayHold (device_of start (told_if a Sync ops)) k c) reported (subst (λ (l : List OperationValue). MayHold (device_of start l) k c) is holds))

-- a write, by what was queued and put
module _ (start : Image) (ops ops2 : List OperationValue) (blocks blocks2 : Image) (reads : (device_of start ops).reads ≡ blocks) (b : Bool) (n : ℕ) (bytes : Block)
    (is : ops2 ≡ told_if b (Write n bytes) ops) (put : blocks2 ≡ put_if b n bytes blocks) where
  pub reads_put : (device_of start ops2).reads ≡ blocks2
  reads_put = subst (λ (l : List OperationValue). (device_of start l).reads ≡ blocks2) (sym is) (written_reads start ops blocks reads b n bytes ∙ sym put)

  pub whole_put : length bytes ≡ 512 → AreWhole ops → AreWhole ops2
  whole_put size are = subst AreWhole (sym is) (still_whole b (Write n bytes) ops size are)

  pub fits_still : length blocks < 2 ^ 64 → length blocks2 < 2 ^ 64
  fits_still fits = omega (arith, fits, ap length put, size_stays b n bytes blocks)

  pub later_put : length ops ≤ length ops2
  later_put = subst (λ (l : List OperationValue). length ops ≤ length l) (sym is) (no_fewer b (Write n bytes) ops)

  pub since_put : (t : ℕ) (image : Image) → t ≤ length ops → IsLeftSince start ops2 t image
      → IsLeftSince start ops t image ⊎ PicksEach blocks2 (MayHold (device_of start ops2)) image
  since_put t image le s = subst (λ (l : Image). IsLeftSince start ops t image ⊎ PicksEach l (MayHold (device_of start ops2)) image) (sym put)
      (subst (λ (l : List OperationValue). IsLeftSince start ops t image ⊎ PicksEach (put_if b n bytes blocks) (MayHold (device_of start l)) image) (sym is)
      (written_since start ops blocks reads b n bytes t image le (subst (λ (l : List OperationValue). IsLeftSince start l t image) is s)))

  pub may_put : MayPut n bytes blocks blocks2
  may_put = subst (MayPut n bytes blocks) (sym put) (put_or_not b n bytes blocks)

  pub held_put : (k : ℕ) (c : Block) → MayHold (device_of start ops2) k c → MayHold (device_of start ops) k c ⊎ ((k ≡ n) × (c ≡ bytes))
  held_put k c holds = written_held start ops blocks reads b n k bytes c (subst (λ (l : List OperationValue). MayHold (device_of start l) k c) is holds)
