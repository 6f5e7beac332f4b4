-- What a call makes of what a handle holds.
use Rattle.std.specs.Prelude.{◌≡◌, ℕ, ◌==◌, cond, List, [], map, Option, None, Some, Bool, true, false}
use Rattle.r10_body.specs.Statuses.{memory_status, place_status}
use Rattle.r10_medium.specs.Disk.{Image, Rose}
use Rattle.r10_machine.specs.declared.event.Event.TheVariants.{Erase, Status}
use Rattle.r10_machine.specs.declared.reply.Reply.TheVariants.{Done}
use Rattle.r10_calls.specs.Aside.{SetsAsideByScript}
use Rattle.r10_calls.specs.Accounts.{account_given, counted_offer, not_yet}
use Rattle.r10_calls.specs.Faults.{no_fault}
use Rattle.r10_calls.specs.Listing.{lane_place}
use Rattle.r10_calls.specs.EventCalls.{DoesEvent, reply_number}
use Rattle.r10_calls.specs.Losses.{HandsOn, lost_with_erased, losses_at}
use Rattle.r10_calls.specs.declared.accounts.AccountOut.{AccountOut}
use Rattle.r10_calls.specs.declared.entry_out.EntryOut.{EntryOut}
use Rattle.r10_calls.specs.declared.losses.LossesOut.{LossesOut}
use Rattle.r10_calls.specs.declared.desk.Desk.{Desk as DeskValue}
use Rattle.r10_calls.specs.Opening.{FormatsByScript, FormatsOver, OpensRecorder}
use Rattle.r10_region.specs.Orders.{all_handed_out, IsOtherEnd, MakesRoom}
use Rattle.r10_region.specs.Queue.{queue_room, places_known}
use Rattle.r10_region.specs.RegionDisk.{region_disk, lent_to, asked, identity_of}
use Rattle.r10_region.specs.declared.region.Region.{Region}
use Rattle.r10_world.specs.State.{with_medium}
use Rattle.r10_ffi.specs.declared.held.LentRecorder.{LentRecorder}
use Rattle.r10_ffi.specs.declared.recorder.Recorder.{Recorder}
use Rattle.r10_ends.specs.Owning.{Between}

abbrev pub IsOpen : Recorder → Type 0
IsOpen r = r.opened ≡ true

abbrev pub IsClosed : Recorder → Type 0
IsClosed r = r.opened ≡ false

-- it is open then, and between what it held and what it holds it is so; and of no channel a message was accepted
abbrev pub Goes : Recorder → Recorder → (LentRecorder → LentRecorder → Type 0) → Type 0
Goes before behind is = IsOpen behind × Between before.handle.held behind.handle.held
    (λ old new. is old new × (new.accepted ≡ old.accepted))

-- between the recorder before and after it is so, and its disk has still to do what it had, and what the call adds
abbrev pub DoesWithoutWriting : Recorder → Recorder → (DeskValue Region → DeskValue Region → Type 0) → Type 0
DoesWithoutWriting before behind is = Goes before behind (λ old new. is old.desk new.desk × (new.orders ≡ old.orders))

-- likewise, of an offer to a channel that is answered so: where it is answered 0, one more message of the channel was accepted
abbrev pub DoesOffer : ℕ → ℕ → Recorder → Recorder → (DeskValue Region → DeskValue Region → Type 0) → Type 0
DoesOffer answer channel before behind is = IsOpen behind × Between before.handle.held behind.handle.held
    (λ old new. is old.desk new.desk × (new.orders ≡ old.orders)
    × (new.accepted.items ≡ counted_offer answer channel old.accepted.items))

-- A channel's account was asked for: so the recorder's status was, and lent memory has what is reported, with the numbers of
-- accepted and of erased messages as they are kept.
abbrev pub Accounts : ℕ → ℕ → AccountOut → AccountOut → Recorder → Recorder → Type 0
Accounts answer place before_out out before behind = Goes before behind
    (λ old new. DoesEvent region_disk old.desk Status (λ reply. (answer ≡ lane_place reply place)
    × (out ≡ account_given reply place old.accepted.items new.desk.world.recorder.kept before_out)) new.desk
    × (new.orders ≡ old.orders))

-- A call that may write. There was room for its operations, or memory for them was refused before it did anything: then the
-- answer is 30, and nothing was done.
pub record WritesHeld (answer : ℕ) (old new : LentRecorder) (is : DeskValue Region → DeskValue Region → Type 0) : Type 0 where
  pub has : Bool
  pub room : MakesRoom has old.orders new.orders
  pub does : is old.desk new.desk
  pub accepted : new.accepted ≡ old.accepted
  pub refused : has ≡ false → (answer ≡ memory_status) × (new.desk ≡ old.desk)

abbrev pub DoesWriting : Recorder → Recorder → ℕ → (DeskValue Region → DeskValue Region → Type 0) → Type 0
DoesWriting before behind answer is = Goes before behind (λ old new. WritesHeld answer old new is)

-- An erase, likewise. Where it is answered 0, the losses before erased messages are counted.
pub record ErasesHeld (answer : ℕ) (old new : LentRecorder) : Type 0 where
  pub has : Bool
  pub room : MakesRoom has old.orders new.orders
  pub does : DoesEvent region_disk old.desk Erase (λ reply. answer ≡ reply_number reply) new.desk
  pub accepted : new.accepted.items ≡ cond (answer == 0) (map (lost_with_erased new.desk.world.recorder.lanes) old.accepted.items)
      old.accepted.items
  pub refused : has ≡ false → (answer ≡ memory_status) × (new.desk ≡ old.desk)

abbrev pub ErasesWhereOpen : ℕ → Recorder → Recorder → Type 0
ErasesWhereOpen answer before behind = IsOpen behind × Between before.handle.held behind.handle.held (ErasesHeld answer)

-- ---- losses, and messages that are handed on

-- the losses of the channel at this place were asked for: nothing changed, and lent memory has them, or 43 was answered
abbrev pub TellsLosses : ℕ → ℕ → LossesOut → LossesOut → Recorder → Recorder → Type 0
TellsLosses answer place before_out out before behind = Goes before behind (λ old new.
    let losses = losses_at old.accepted.items old.desk.world.recorder.lanes place in
    (new.desk ≡ old.desk) × (new.orders ≡ old.orders) × (answer ≡ elim losses [ None ↦ place_status | Some x ↦ 0 ])
    × (out ≡ elim losses [ None ↦ before_out | Some x ↦ x ]))

-- the first message that waits on a channel was taken out of its lane
abbrev pub GivesWaiting : ℕ → ℕ → Bool → Bool → EntryOut → EntryOut → Recorder → Recorder → Type 0
GivesWaiting answer channel before_there there before_out out before behind = IsOpen behind
    × Between before.handle.held behind.handle.held (λ old new.
    HandsOn region_disk channel old.desk old.accepted.items before_there before_out answer new.desk new.accepted.items there out
    × (new.orders ≡ old.orders))

-- no refusal of it carried anything yet, and no entry is in hand
abbrev pub HasNothingYet : DeskValue Region → Type 0
HasNothingYet desk = (desk.fault ≡ no_fault) × (desk.hand ≡ Done)

-- A recorder by the script over memory that held this, of whose disk nothing was asked yet, and of whose channels no message was
-- accepted; and beside it the other end of its disk's queue, out of which nothing was handed yet. So many operations may
-- wait in it, and it is known that there is a place for each.
pub record OpensOver (text : List ℕ) (image : Image) (room : ℕ) (h : LentRecorder) : Type 0 where
  pub medium : Region
  pub lent : lent_to medium ≡ image
  pub none_yet : asked medium ≡ []
  pub queue : IsOtherEnd medium h.orders
  pub room_is : queue_room medium ≡ room
  pub places : places_known medium ≡ room
  pub each_call : h.orders.room ≡ room
  pub opens : OpensRecorder region_disk text medium h.desk.world
  pub accepted : h.accepted.items ≡ map not_yet h.desk.world.recorder.kept.config.channels
  pub empty : HasNothingYet h.desk

abbrev pub IsOpened : List ℕ → Image → ℕ → Option LentRecorder → Type 0
IsOpened text image room None = ⊥
IsOpened text image room (Some h) = OpensOver text image room h

-- A recorder by the script over a medium which it finds without files: the memory that held this. What a power loss leaves of it is
-- what was lent, with the directory of a medium without files in it.
-- Nothing was handed out yet of what its disk was asked.
pub record FormatsHeld (text : List ℕ) (image : Image) (h : LentRecorder) : Type 0 where
  pub medium : Region
  pub lent : lent_to medium ≡ image
  pub nothing : all_handed_out h.orders ≡ []
  pub formats : FormatsByScript text (region_disk medium)
  pub over : FormatsOver text image (region_disk medium)
  pub opens : OpensRecorder region_disk text medium h.desk.world
  pub accepted : h.accepted.items ≡ map not_yet h.desk.world.recorder.kept.config.channels
  pub empty : HasNothingYet h.desk

abbrev pub IsFormattedRegion : List ℕ → Image → Option LentRecorder → Type 0
IsFormattedRegion text image None = ⊥
IsFormattedRegion text image (Some h) = FormatsHeld text image h

-- A recorder by the script over a medium whose last file was set aside: the memory that held this. Nothing was handed
-- out yet of what its disk was asked.
pub record AsideHeld (text : List ℕ) (was_open : Bool) (image : Image) (h : LentRecorder) : Type 0 where
  pub medium : Region
  pub lent : lent_to medium ≡ image
  pub nothing : all_handed_out h.orders ≡ []
  -- the medium over that memory from which it was made, of which nothing was asked yet
  pub before : Region
  pub over : (lent_to before ≡ image) × ((region_disk before).blocks ≡ image) × (asked before ≡ [])
  pub aside : SetsAsideByScript text was_open (region_disk before) (region_disk medium)
  pub opens : OpensRecorder region_disk text medium h.desk.world
  pub accepted : h.accepted.items ≡ map not_yet h.desk.world.recorder.kept.config.channels
  pub empty : HasNothingYet h.desk

abbrev pub IsAsideRegion : List ℕ → Bool → Image → Option LentRecorder → Type 0
IsAsideRegion text was_open image None = ⊥
IsAsideRegion text was_open image (Some h) = AsideHeld text was_open image h

-- A medium over the memory that held this, with so many places in its queue, of which nothing was asked yet and no call had failed;
-- and the same one after calls in which its count of failures rose.
pub record FailsOver (image : Image) (room : ℕ) : Type 0 where
  pub medium : Region
  pub later : Region
  pub lent : lent_to medium ≡ image
  pub none_yet : asked medium ≡ []
  pub none_failed : (region_disk medium).failures ≡ 0
  pub room_is : queue_room medium ≡ room
  pub same : identity_of later ≡ identity_of medium
  pub rose : Rose (region_disk medium).failures (region_disk later).failures

-- Of what the region asked of its disk something was handed out, or all was before: so of the region before and after.
-- All else of the recorder is as it was.
pub record HandsHeld (old new : LentRecorder) (so : Region → Region → Type 0) : Type 0 where
  pub medium : Region
  pub desk : new.desk ≡ record old.desk { world = with_medium medium old.desk.world }
  pub hands : so old.desk.world.recorder.medium medium
  pub accepted : new.accepted ≡ old.accepted
