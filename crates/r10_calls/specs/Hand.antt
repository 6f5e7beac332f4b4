-- The entry that a reader's program has in hand.
use Rattle.std.specs.Prelude.{◌≡◌, ℕ, Bool, true, false, Option, None, Some}
use Rattle.r10_body.specs.declared.entry.Entry.{Entry}
use Rattle.r10_medium.specs.Disk.{Disk}
use Rattle.r10_machine.specs.declared.event.Event.TheVariants as events
use Rattle.r10_machine.specs.declared.reply.Reply.{Reply as ReplyValue}
use Rattle.r10_machine.specs.declared.reply.Reply.TheVariants.{Next}
use Rattle.r10_calls.specs.Entries.{fields_of}
use Rattle.r10_calls.specs.Faults.{fault_in}
use Rattle.r10_calls.specs.EventCalls.{Told}
use Rattle.r10_calls.specs.declared.desk.Desk.{Desk as DeskValue}
use Rattle.r10_calls.specs.declared.entry_out.EntryOut.{EntryOut}

-- the entry of a reply that gives one
abbrev pub entry_in : ReplyValue → Option Entry
entry_in (Next e) = e
entry_in reply = None

-- whether a cursor gave one; where it was refused, what was there
abbrev pub is_next_in : ReplyValue → Bool → Bool
is_next_in (Next None) old = false
is_next_in (Next (Some e)) old = true
is_next_in reply old = old

-- its fields, or what was there
abbrev pub next_fields : ReplyValue → EntryOut → EntryOut
next_fields (Next (Some e)) old = fields_of e
next_fields reply old = old

-- A cursor was asked to give its next, and of the reply this is so. What it gave is in hand then, in place of what was.
pub record TakesInHand {M : Type 0} (disk : M → Disk) (old : DeskValue M) (id : ℕ) (tells : ReplyValue → Type 0)
    (new : DeskValue M) : Type 0 where
  pub reply : ReplyValue
  pub reported : Told disk old.world (events.Next id) reply new.world
  pub says : tells reply
  pub config : new.world.recorder.kept.config ≡ old.world.recorder.kept.config
  pub fault : new.fault ≡ fault_in reply old.fault
  pub hand : new.hand ≡ reply
