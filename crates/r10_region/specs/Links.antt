-- Which ring comes after which, and what was put into those before.
use Rattle.std.specs.Prelude.{◌≡◌, ℕ, List, [], ◌∷◌, ◌++◌, take, Some, slice_get}
use Rattle.std.specs.declared.alloc.Global.{Global}
use denote.RawPtr.{Ptr}
use Rattle.rtrb.specs.Ring.{sent}
use Rattle.rtrb.specs.Shared.{Names}
use Rattle.rtrb.specs.declared.end.End.{End}
use Rattle.r10_region.specs.declared.operation.Operation.{Operation as OperationValue}
use Rattle.r10_region.specs.declared.link.Link.{Link}

-- what a ring is known by, whatever is in it
pub record RingName : Type 0 where
  pub words : Ptr
  pub slots : Ptr
  pub names : Names
  pub heap : Global

abbrev pub name_of : {T P : Type 0} → End T Global P → RingName
name_of e = record { words = e.words; slots = e.slots; names = e.names; heap = e.heap }

-- the ring that these links lead to, from the first ring on
abbrev pub last_name : RingName → List Link → RingName
last_name first [] = first
last_name first (l ∷ links) = last_name (name_of l.next.end) links

-- each of them has the other end of the ring that those before it lead to
abbrev pub AreLinked : RingName → List Link → Type 0
AreLinked first links = (i : ℕ) (l : Link) → slice_get links i ≡ Some l → name_of l.before.end ≡ last_name first (take i links)

-- what went through the rings before, ring by ring
abbrev pub told_before : List Link → List OperationValue
told_before [] = []
told_before (l ∷ links) = sent l.before ++ told_before links

-- the same link, of whose ring before more may be known
pub record IsLookedAt (old new : Link) : Type 0 where
  pub next : new.next ≡ old.next
  pub before : sent new.before ≡ sent old.before
  pub name : name_of new.before.end ≡ name_of old.before.end
