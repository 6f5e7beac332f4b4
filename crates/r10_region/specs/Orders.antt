-- What is handed out of the operations that a disk has to do.
use Rattle.std.specs.Prelude.{◌≡◌, ◌≢◌, ◌⊎◌, ℕ, ◌/◌, ◌+◌, ◌-◌, ◌≤◌, Bool, true, false, List, [], ◌∷◌, ◌++◌, drop, length, max}
use Rattle.std.specs.Prelude.{None, Some, MatchBool}
use Rattle.rtrb.specs.Ring.{sent, received, known_items, known_free, consumer_capacity, producer_capacity, IsPair, SameConsumer}
use Rattle.rtrb.specs.Ring.{SameProducer, ConsumerLooked}
use Rattle.r10_region.specs.Ahead.{links_ahead}
use Rattle.r10_region.specs.Line.{told_by}
use Rattle.r10_region.specs.Links.{name_of, told_before}
use Rattle.r10_region.specs.RegionDisk.{region_disk, lent_to, asked}
use Rattle.r10_region.specs.Runs.{AllJoin, grown_by_all, put_all_in_run}
use Rattle.r10_region.specs.declared.ahead.Ahead.{Ahead}
use Rattle.r10_region.specs.declared.line.Line.{Line as LineValue}
use Rattle.r10_region.specs.declared.operation.Operation.{Operation as OperationValue}
use Rattle.r10_region.specs.declared.operation.Operation.TheVariants.{Write, Sync}
use Rattle.r10_region.specs.declared.orders.OrderOut.{OrderOut}
use Rattle.r10_region.specs.declared.orders.QueueOut.{QueueOut}
use Rattle.r10_region.specs.declared.orders.RunOut.{RunOut}
use Rattle.r10_region.specs.declared.orders.Orders.{Orders as OrdersValue}
use Rattle.r10_region.specs.declared.region.Region.{Region}
use Rattle.r10_region.specs.declared.spare.Spare.{Spare}

-- the two ends of one queue
pub record IsTied (l : LineValue) (o : OrdersValue) : Type 0 where
  pub links : name_of l.links.end ≡ name_of o.links.end
  pub first : name_of l.first.value.end ≡ name_of o.first.value.end

-- the region's disk is asked through this queue, and what was lent to it is known here
pub record IsTiedTo (r : Region) (o : OrdersValue) : Type 0 where
  pub line : IsTied r.line o
  pub lent : lent_to r ≡ o.was.value.held

-- those that were handed out of the ring in hand, in order
abbrev pub taken : OrdersValue → List OperationValue
taken o = received o.ring

-- all that were handed out, in order
abbrev pub all_handed_out : OrdersValue → List OperationValue
all_handed_out o = told_before (received o.done.value) ++ taken o

-- nothing was handed out yet of what the region asks its disk, and all comes out here
pub record IsOtherEnd (r : Region) (o : OrdersValue) : Type 0 where
  pub ring : IsPair r.line.ring o.ring
  pub links : IsPair r.line.links o.links
  pub tied : IsTiedTo r o
  pub news : IsPair o.news r.news
  pub none_told : sent o.news ≡ []
  pub spares : IsPair o.spares r.line.spares
  pub no_spares : sent o.spares ≡ []
  pub none_out : received o.ring ≡ []
  pub no_links : received o.links ≡ []
  pub nothing : all_handed_out o ≡ []

-- ---- which ring is in hand

-- it is the same queue
pub record IsSameQueueEnd (old new : OrdersValue) : Type 0 where
  pub links : name_of new.links.end ≡ name_of old.links.end
  pub first : new.first ≡ old.first
  pub was : new.was ≡ old.was
  pub news : new.news ≡ old.news
  pub spares : new.spares ≡ old.spares
  pub room : new.room ≡ old.room

-- a ring is ahead, whose link was taken out; and the one in hand has the rest of what was put into it, which is something
pub record HasAhead (o : OrdersValue) : Type 0 where
  pub one : Ahead
  pub ahead : o.ahead ≡ Some one
  pub fifo : taken o ++ known_items o.ring ≡ sent one.was.value.before
  pub some : known_items o.ring ≢ []

-- the ring ahead was taken in hand, if there was one; or the one in hand has more
pub record MovesOn (moved : Bool) (old new : OrdersValue) : Type 0 where
  pub queue : IsSameQueueEnd old new
  pub links : new.links ≡ old.links
  pub same : all_handed_out new ≡ all_handed_out old
  pub has : MatchBool moved (new.ahead ≡ None) (HasAhead new)

-- nothing was put into the line, of which more may be known
pub record LineLooked (old new : LineValue) : Type 0 where
  pub links : name_of new.links.end ≡ name_of old.links.end
  pub first : new.first ≡ old.first
  pub reported : told_by new ≡ told_by old

-- Nothing was handed out. What was put into the line is what was handed out, what is known in the ring in
-- hand, and more, if that has something.
pub record LooksAtLine (l l' : LineValue) (old new : OrdersValue) : Type 0 where
  pub line : LineLooked l l'
  pub queue : IsSameQueueEnd old new
  pub same : all_handed_out new ≡ all_handed_out old
  pub more : List OperationValue
  pub all : told_by l' ≡ all_handed_out new ++ (known_items new.ring ++ more)
  pub none : known_items new.ring ≡ [] → more ≡ []

-- ---- one operation

abbrev pub order_out : OperationValue → OrderOut
order_out (Write n bytes) = record { block = n; kind = 1 }
order_out Sync = record { block = 0; kind = 2 }

abbrev pub no_order : OrderOut
no_order = record { block = 0; kind = 0 }

-- the bytes of a write, and after them what was there
abbrev pub written_bytes : OperationValue → List ℕ → List ℕ
written_bytes (Write n bytes) before = bytes ++ drop 512 before
written_bytes Sync before = before

-- the same links were taken out, and the same rings were in hand
pub record HasSameTurn (old new : OrdersValue) : Type 0 where
  pub ahead : new.ahead ≡ old.ahead
  pub done : new.done ≡ old.done
  pub first : new.first ≡ old.first
  pub was : new.was ≡ old.was

-- it is the same queue
pub record IsSameEnd (old new : OrdersValue) : Type 0 where
  pub ring : SameConsumer old.ring new.ring
  pub turn : HasSameTurn old new
  pub links : new.links ≡ old.links
  pub news : new.news ≡ old.news
  pub spares : new.spares ≡ old.spares
  pub room : new.room ≡ old.room

-- the first of those that are known in the ring in hand was taken
pub record TakesFirst (op : OperationValue) (old new : OrdersValue) : Type 0 where
  pub one_more : taken new ≡ taken old ++ op ∷ []
  pub known : known_items old.ring ≡ op ∷ known_items new.ring

-- none is known there
pub record HasNoOrder (old new : OrdersValue) : Type 0 where
  pub no_more : taken new ≡ taken old
  pub none : known_items old.ring ≡ []

-- one more was handed out
pub record Hands (op : OperationValue) (old new : OrdersValue) (out : OrderOut) (before after : List ℕ) : Type 0 where
  pub takes : TakesFirst op old new
  pub reported : out ≡ order_out op
  pub lent : after ≡ written_bytes op before

-- there was none
pub record HandsNone {Out : Type 0} (none_is : Out) (old new : OrdersValue) (out : Out) (before after : List ℕ) : Type 0 where
  pub has : HasNoOrder old new
  pub reported : out ≡ none_is
  pub lent : after ≡ before

-- of those that are known in the ring in hand the next was handed out, or there was none
pub record HandsOne (old new : OrdersValue) (out : OrderOut) (before after : List ℕ) : Type 0 where
  pub queue : IsSameEnd old new
  pub hands : ((op : OperationValue) × Hands op old new out before after) ⊎ HandsNone no_order old new out before after

-- ---- what the region asked

-- Of the region no more is known than before but of places: it was asked nothing, and what it reads and what a power loss leaves is
-- as it was.
pub record IsLookedInto (old new : Region) : Type 0 where
  pub blocks : (region_disk new).blocks ≡ (region_disk old).blocks
  pub failures : (region_disk new).failures ≡ (region_disk old).failures
  pub lent : lent_to new ≡ lent_to old
  pub asked : asked new ≡ asked old
  pub line : LineLooked old.line new.line

-- These were handed out, which come next of all that was asked.
pub record HandsMore (ops wanted : List OperationValue) (old new : OrdersValue) : Type 0 where
  pub more : all_handed_out new ≡ all_handed_out old ++ ops
  pub rest : List OperationValue
  pub next : wanted ≡ all_handed_out new ++ rest

-- All that was asked was handed out before.
pub record HasHandedAll {Out : Type 0} (none_is : Out) (wanted : List OperationValue) (old new : OrdersValue) (out : Out)
    (before after : List ℕ) : Type 0 where
  pub no_more : all_handed_out new ≡ all_handed_out old
  pub all : wanted ≡ all_handed_out new
  pub reported : out ≡ none_is
  pub lent : after ≡ before

-- The next operation that the region asked was handed out, or all were before.
pub record HandsOrderOut (r r' : Region) (old new : OrdersValue) (out : OrderOut) (before after : List ℕ) : Type 0 where
  pub region : IsLookedInto r r'
  pub queue : IsSameQueueEnd old new
  pub hands : ((op : OperationValue) × HandsMore (op ∷ []) (asked r') old new × (out ≡ order_out op)
      × (after ≡ written_bytes op before))
      ⊎ HasHandedAll no_order (asked r') old new out before after

-- ---- a run

abbrev pub no_run : RunOut
no_run = record { block = 0; blocks = 0; kind = 0 }

abbrev pub sync_run : RunOut
sync_run = record { block = 0; blocks = 0; kind = 2 }

-- a write, and as many after it as join it: what each block of the run has then is what was written there last
pub record IsRun (first : ℕ) (bytes : List ℕ) (ops : List OperationValue) (out : RunOut) (before after : List ℕ) : Type 0 where
  pub all_join : AllJoin first 1 (length before / 512) ops
  pub reported : out ≡ record { block = first; blocks = grown_by_all first ops 1; kind = 1 }
  pub lent : after ≡ put_all_in_run first ops (bytes ++ drop 512 before)

-- these were taken, which are known in the ring in hand
pub record TakesAll (ops : List OperationValue) (old new : OrdersValue) : Type 0 where
  pub more : taken new ≡ taken old ++ ops
  pub known : known_items old.ring ≡ ops ++ known_items new.ring

pub data HandsNext (old new : OrdersValue) (out : RunOut) (before after : List ℕ) : Type 0 where
  run : (first : ℕ) (bytes : List ℕ) (ops : List OperationValue) → TakesAll (Write first bytes ∷ ops) old new
      → IsRun first bytes ops out before after → HandsNext old new out before after
  sync : TakesFirst Sync old new → out ≡ sync_run → after ≡ before → HandsNext old new out before after
  none : HandsNone no_run old new out before after → HandsNext old new out before after

-- of the operations that are known in the ring in hand the next run was handed out, or a sync, or there was none
pub record HandsSome (old new : OrdersValue) (out : RunOut) (before after : List ℕ) : Type 0 where
  pub queue : IsSameEnd old new
  pub hands : HandsNext old new out before after

pub data HandsNextRun (wanted : List OperationValue) (old new : OrdersValue) (out : RunOut) (before after : List ℕ) : Type 0 where
  run : (first : ℕ) (bytes : List ℕ) (ops : List OperationValue) → HandsMore (Write first bytes ∷ ops) wanted old new
      → IsRun first bytes ops out before after → HandsNextRun wanted old new out before after
  sync : HandsMore (Sync ∷ []) wanted old new → out ≡ sync_run → after ≡ before → HandsNextRun wanted old new out before after
  none : HasHandedAll no_run wanted old new out before after → HandsNextRun wanted old new out before after

-- The next run of what the region asked was handed out, or a sync, or all were before.
pub record HandsRunOut (r r' : Region) (old new : OrdersValue) (out : RunOut) (before after : List ℕ) : Type 0 where
  pub region : IsLookedInto r r'
  pub queue : IsSameQueueEnd old new
  pub hands : HandsNextRun (asked r') old new out before after

-- ---- how much waits, and that the disk failed

-- what waits and has a place in the ring in hand, and how many further rings wait
pub record CountsQueue (old new : OrdersValue) (out : QueueOut) : Type 0 where
  pub ring : ConsumerLooked old.ring new.ring
  pub links : ConsumerLooked old.links new.links
  pub news : new.news ≡ old.news
  pub spares : new.spares ≡ old.spares
  pub room : new.room ≡ old.room
  pub turn : HasSameTurn old new
  pub reported : out ≡ record {
    waiting = length (known_items new.ring);
    places = consumer_capacity new.ring;
    rings = length (known_items new.links) + length (links_ahead new.ahead);
  }

-- a failure was reported to the region, or one was reported before and is not yet heard
pub record HasTold (old new : OrdersValue) : Type 0 where
  pub turn : HasSameTurn old new
  pub ring : new.ring ≡ old.ring
  pub links : new.links ≡ old.links
  pub spares : new.spares ≡ old.spares
  pub room : new.room ≡ old.room
  pub news : SameProducer old.news new.news
  pub reported : (sent new.news ≡ sent old.news ++ true ∷ []) ⊎ ((sent new.news ≡ sent old.news) × (known_free new.news ≡ 0))

-- ---- room for a call

-- A spare ring was sent to the region: it has a place for each of so many operations.
pub record SendsSpare (old new : OrdersValue) : Type 0 where
  pub spare : Spare
  pub sends : sent new.spares ≡ sent old.spares ++ spare ∷ []
  pub places : producer_capacity spare.ring ≡ max old.room 1

-- Before memory is asked for there is a place for each of so many operations: in the spare ring that was sent before and is
-- there, in the ring in hand, after which none waits, or in a spare ring that is sent now.
pub data HasRoom (old new : OrdersValue) : Type 0 where
  waits : known_free new.spares ≡ 0 → sent new.spares ≡ sent old.spares → HasRoom old new
  in_hand : new.ahead ≡ None → known_items new.links ≡ [] → old.room ≤ consumer_capacity new.ring - length (known_items new.ring)
      → sent new.spares ≡ sent old.spares → HasRoom old new
  sends : SendsSpare old new → HasRoom old new

abbrev pub HasRoomIf : Bool → OrdersValue → OrdersValue → Type 0
HasRoomIf true old new = HasRoom old new
HasRoomIf false old new = sent new.spares ≡ sent old.spares

-- the ring in hand was looked at, and whether another one waits
pub record LooksAhead (old new : OrdersValue) : Type 0 where
  pub turn : HasSameTurn old new
  pub ring : ConsumerLooked old.ring new.ring
  pub links : ConsumerLooked old.links new.links
  pub news : new.news ≡ old.news
  pub spares : new.spares ≡ old.spares
  pub room : new.room ≡ old.room

-- there is room, or memory for it was refused, and then no spare ring was sent
pub record MakesRoom (has : Bool) (old new : OrdersValue) : Type 0 where
  pub turn : HasSameTurn old new
  pub ring : ConsumerLooked old.ring new.ring
  pub links : ConsumerLooked old.links new.links
  pub news : new.news ≡ old.news
  pub spares : SameProducer old.spares new.spares
  pub room : new.room ≡ old.room
  pub places : HasRoomIf has old new
