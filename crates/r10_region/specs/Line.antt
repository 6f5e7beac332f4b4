-- A line of rings: what was sent through it, and how it goes on.
use Rattle.std.specs.Prelude.{◌≡◌, ◌⊎◌, ◌+◌, ◌≤◌, Bool, false, List, [], ◌∷◌, ◌++◌}
use Rattle.rtrb.specs.Ring.{sent, received, known_free, known_items, IsPair, SameProducer, SameConsumer}
use Rattle.r10_region.specs.declared.operation.Operation.{Operation as OperationValue}
use Rattle.r10_region.specs.Links.{told_before}
use Rattle.r10_region.specs.declared.link.Link.{Link}
use Rattle.r10_region.specs.declared.line.Line.{Line as LineValue}

-- the further rings' other ends, in order
abbrev pub sent_links : LineValue → List Link
sent_links l = sent l.links

-- all operations that were put into it, in order
abbrev pub told_by : LineValue → List OperationValue
told_by l = told_before (sent_links l) ++ sent l.ring

-- the ring in use is a new one: its other end is the last that went out, with what the ring before it was given
pub record BeginsRing (old new : LineValue) : Type 0 where
  pub link : Link
  pub out : sent_links new ≡ sent_links old ++ link ∷ []
  pub before : sent link.before ≡ sent old.ring
  pub pair : IsPair new.ring link.next
  pub fresh : received link.next ≡ []

-- the ring in use is the same
pub record KeepsRing (old new : LineValue) : Type 0 where
  pub out : sent_links new ≡ sent_links old
  pub ring : SameProducer old.ring new.ring

-- After an operation that was queued, which took a place at most of those known to be free, or began a further ring where there
-- was none; it was not queued only where no place was known to be free, and none is, and where there is no spare ring, or as many
-- rings wait as may.
pub record KeepsLine (reported : Bool) (old new : LineValue) : Type 0 where
  pub links : SameProducer old.links new.links
  pub ring : KeepsRing old new ⊎ BeginsRing old new
  pub places : known_free old.ring ≤ known_free new.ring + 1
  pub full : reported ≡ false → (known_free old.ring ≡ 0) × (known_free new.ring ≡ 0)
  pub spares : SameConsumer old.spares new.spares
  pub first : new.first ≡ old.first
  pub no_spare : reported ≡ false → (known_free new.links ≡ 0) ⊎ (known_items new.spares ≡ [])
