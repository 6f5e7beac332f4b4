-- What lent memory reads as, and what a power loss leaves of the disk that does what it is ordered to.
use Rattle.std.specs.Prelude.{◌≡◌, ℕ, ◌-◌, ◌^◌, ◌≤◌, ◌<◌, List, length, min}
use Rattle.std.proofs.Common.{arith, sym, ap, subst}
use Rattle.std.proofs.lemmas.List.{take_all}
use Rattle.r10_medium.specs.Crashing.{stays_in_range}
use Rattle.r10_medium.specs.Disk.{Disk, Image, Block, IsWhole, PicksEach, block_at}
use Rattle.r10_region.specs.Device.{device_of, at_rest, MayHold, IsLeftOfDevice, IsLeftSince, AreWhole, all_sound, all_whole}
use Rattle.r10_region.specs.Device.{rest_is_sound, rest_is_whole}
use Rattle.r10_region.specs.Identity.{Identity}
use Rattle.r10_region.specs.Line.{told_by}
use Rattle.r10_region.specs.Links.{name_of}
use Rattle.r10_region.specs.declared.operation.Operation.{Operation as OperationValue}
use Rattle.r10_region.specs.declared.region.Region.{Region}

-- what was lent
abbrev pub lent_to : Region → Image
lent_to r = r.was.value.held

-- which one it is
abbrev pub identity_of : Region → Identity
identity_of r = record { links = name_of r.line.links.end; first = name_of r.line.first.value.end; lent = lent_to r }

-- what the disk was ordered to do, in order
abbrev pub asked : Region → List OperationValue
asked r = told_by r.line

module _ (start : Image) (ops : List OperationValue) (blocks : Image) (reads : (device_of start ops).reads ≡ blocks) where
  pub read_stands : (n : ℕ) → MayHold (device_of start ops) n (block_at blocks n)
  read_stands n = subst (λ (l : Image). MayHold (device_of start ops) n (block_at l n)) reads
      ((all_sound (at_rest start) ops (rest_is_sound start)).stands n)

  pub held_whole : IsWhole start → AreWhole ops → (n : ℕ) (c : Block) → n < length blocks → MayHold (device_of start ops) n c
      → length c ≡ 512
  held_whole whole are n c lt holds = all_whole (at_rest start) ops (rest_is_sound start) are (rest_is_whole start whole) n c
      (omega (arith, lt, ap length reads)) holds

  pub left_now : (t : ℕ) (image : Image) → t ≤ length ops → PicksEach blocks (MayHold (device_of start ops)) image
      → IsLeftSince start ops t image
  left_now t image le picks = record {
    done = length ops;
    later = le;
    within = omega arith;
    left = subst (λ (l : List OperationValue). IsLeftOfDevice (device_of start l) image)
        (sym (take_all (length ops) ops (omega arith)))
        (subst (λ (l : Image). PicksEach l (MayHold (device_of start ops)) image) (sym reads) picks);
  }

  pub now_left : (image : Image) → IsLeftSince start ops (length ops) image
      → PicksEach blocks (MayHold (device_of start ops)) image
  now_left image s = subst (λ (l : Image). PicksEach l (MayHold (device_of start ops)) image) reads
      (subst (λ (l : List OperationValue). IsLeftOfDevice (device_of start l) image) (take_all s.done ops s.later) s.left)

abbrev pub region_disk : Region → Disk
region_disk r = record {
  blocks = r.blocks.now;
  may_hold = MayHold (device_of (lent_to r) (asked r));
  moment = length (asked r);
  since = IsLeftSince (lent_to r) (asked r);
  failures = min r.failures (2 ^ 64 - 1);
  stands = λ n lt. read_stands (lent_to r) (asked r) r.blocks.now r.reads n;
  whole = held_whole (lent_to r) (asked r) r.blocks.now r.reads r.whole r.each_whole;
  counts_now = left_now (lent_to r) (asked r) r.blocks.now r.reads;
  only_now = now_left (lent_to r) (asked r) r.blocks.now r.reads;
  fits = r.fits;
  at_most = stays_in_range r.failures;
}
