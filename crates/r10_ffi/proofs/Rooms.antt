-- A call that may write, after its look for room.
use Rattle.std.proofs.Common.{◌≡◌, ℕ, Bool, true, false, refl, sym, ap, subst, inr, ◌∙◌, true≢false}
use Rattle.r10_body.specs.declared.refusal.Refusal.TheVariants.{OutOfMemory}
use Rattle.r10_calls.specs.EventCalls.{DoesEvent, reply_number}
use Rattle.r10_calls.specs.declared.desk.Desk.{Desk as DeskValue}
use Rattle.r10_machine.specs.declared.event.Event.{Event as EventValue}
use Rattle.r10_machine.specs.declared.event.Event.TheVariants.{Erase}
use Rattle.r10_machine.specs.declared.reply.Reply.{Reply as ReplyValue}
use Rattle.r10_machine.specs.declared.reply.Reply.TheVariants.{Refused}
use Rattle.r10_region.specs.Orders.{MakesRoom}
use Rattle.r10_region.specs.RegionDisk.{region_disk}
use Rattle.r10_region.specs.declared.region.Region.{Region}
use Rattle.r10_ffi.specs.Calls.{ErasesHeld, WritesHeld}
use Rattle.r10_ffi.specs.declared.held.LentRecorder.{LentRecorder}

-- memory for room was refused
pub refused : (old new : LentRecorder) (has : Bool) (event : EventValue) (tells : ReplyValue → Type 0) → MakesRoom has old.orders new.orders → has ≡ false → new.desk ≡ old.desk → new.accepted ≡ old.accepted
    → tells (Refused OutOfMemory) → WritesHeld 30 old new (λ before after. DoesEvent region_disk before event tells after)
refused old new has event tells room none same accepted says = record {
  has = has;
  room = room;
  does = subst (λ (d : DeskValue Region). DoesEvent region_disk old.desk event tells d) (sym same)
      (record { reply = Refused OutOfMemory; reported = inr (refl, refl); says = says; config = refl; fault = refl; hand = refl });
  accepted = accepted;
  refused = λ e. (refl, same);
}

-- there was room
pub wrote : (old new : LentRecorder) (answer : ℕ) (has : Bool) (is : DeskValue Region → DeskValue Region → Type 0) → MakesRoom has old.orders new.orders → has ≡ true → is old.desk new.desk
    → new.accepted ≡ old.accepted → WritesHeld answer old new is
wrote old new answer has is room some does same = record {
  has = has;
  room = room;
  does = does;
  accepted = same;
  refused = λ e. absurd (true≢false (sym some ∙ e));
}

-- the same of an erase
pub refused_erase : (old new : LentRecorder) (has : Bool) → MakesRoom has old.orders new.orders → has ≡ false → new.desk ≡ old.desk → new.accepted ≡ old.accepted → ErasesHeld 30 old new
refused_erase old new has room none same accepted = record {
  has = has;
  room = room;
  does = subst (λ (d : DeskValue Region). DoesEvent region_disk old.desk Erase (λ reply. 30 ≡ reply_number reply) d) (sym same)
      (record { reply = Refused OutOfMemory; reported = inr (refl, refl); says = refl; config = refl; fault = refl; hand = refl });
  accepted = ap (λ (v : _). v.items) accepted;
  refused = λ e. (refl, same);
}
