-- The queue from a region to its disk: how much may wait in it, and what a call of the medium does to it.
use Rattle.std.specs.Prelude.{◌≡◌, ◌⊎◌, ℕ, ◌+◌, ◌≤◌, ◌<◌, length, [], ◌∷◌, ◌++◌}
use Rattle.rtrb.specs.Ring.{known_free, known_items, producer_capacity, SameProducer, SameConsumer}
use Rattle.r10_region.specs.Line.{KeepsRing, BeginsRing}
use Rattle.r10_region.specs.RegionDisk.{region_disk, lent_to, asked}
use Rattle.r10_region.specs.declared.operation.Operation.{Operation as OperationValue}
use Rattle.r10_region.specs.declared.region.Region.{Region}

-- how many operations may wait in the ring in use
abbrev pub queue_room : Region → ℕ
queue_room r = producer_capacity r.line.ring

-- how many more the region knows that there is a place for
abbrev pub places_known : Region → ℕ
places_known r = known_free r.line.ring

-- it is the same queue, in the ring in use or in a further one
pub record IsSameQueue (old new : Region) : Type 0 where
  pub links : SameProducer old.line.links new.line.links
  pub spares : SameConsumer old.line.spares new.line.spares
  pub ring : KeepsRing old.line new.line ⊎ BeginsRing old.line new.line
  pub first : new.line.first ≡ old.line.first

-- The disk was asked this, after what it was asked before, and it took a place at most of those known.
pub record AsksDisk (op : OperationValue) (old new : Region) : Type 0 where
  pub lent : lent_to new ≡ lent_to old
  pub queue : IsSameQueue old new
  pub one_more : asked new ≡ asked old ++ op ∷ []
  pub places : places_known old ≤ places_known new + 1
  pub failures : (region_disk new).failures ≡ (region_disk old).failures

-- There was no place known to be free, and none is, and no spare ring is there, or as many rings wait as may: nothing was
-- written, and the disk was asked nothing.
pub record FindsNoPlace (old new : Region) : Type 0 where
  pub none_known : places_known old ≡ 0
  pub none_left : places_known new ≡ 0
  pub no_spare : (known_free new.line.links ≡ 0) ⊎ (known_items new.line.spares ≡ [])
  pub lent : lent_to new ≡ lent_to old
  pub queue : IsSameQueue old new
  pub no_more : asked new ≡ asked old
  pub blocks : (region_disk new).blocks ≡ (region_disk old).blocks

-- It was reported that the disk failed: nothing was written, and the disk was asked nothing.
pub record HearsFailure (old new : Region) : Type 0 where
  pub heard : 0 < length (known_items new.news)
  pub lent : lent_to new ≡ lent_to old
  pub line : new.line ≡ old.line
  pub blocks : (region_disk new).blocks ≡ (region_disk old).blocks
