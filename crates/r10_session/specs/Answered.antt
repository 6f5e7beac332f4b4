-- What the recorder under the lock answered to orders.
use Rattle.std.specs.Prelude.{◌≡◌, List, [], ◌∷◌, None, IfErr, OnOk, Result, Ok, Err}
use Rattle.r10_body.specs.declared.refusal.Refusal.{Refusal}
use Rattle.r10_machine.specs.declared.reply.Reply.{Reply}
use Rattle.r10_machine.specs.declared.reply.Reply.TheVariants as replies
use Rattle.r10_medium.specs.Disk.{Disk}
use Rattle.r10_shared.specs.Orders.{HasDone, LanesStayBut, OwnsAs, Performs, PublishesAs, RefusesAs, event_of}
use Rattle.r10_shared.specs.Recorder.{HeldState, recorder_refusal}
use Rattle.r10_shared.specs.declared.order.Order.{Order}

-- the answer of a call as a reply
abbrev pub reply_of : Result Reply Refusal → Reply
reply_of (Ok reply) = reply
reply_of (Err r) = replies.Refused r

-- the recorder was asked an order, did it or refused it as its own call says, whatever files the medium has, and this is its reply
pub record Answers {M : Type 0} (disk : M → Disk) (old : HeldState M) (order : Order) (reply : Reply)
    (new : HeldState M) : Type 0 where
  pub answer : Result Reply Refusal
  pub reported : reply ≡ reply_of answer
  pub passed : OnOk answer (recorder_refusal old.recorder.kept (event_of order) ≡ None)
  pub refused : IfErr answer (RefusesAs disk order old new)
  pub effect : OnOk answer (HasDone disk order old new)
  pub lanes : LanesStayBut order old new
  pub owned : OwnsAs disk order old new answer
  pub performs : Performs disk order old new answer
  pub publishes : PublishesAs order old new answer

-- and so with each of these, one after the other
abbrev pub Answered : {M : Type 0} → (M → Disk) → HeldState M → List Order → List Reply → HeldState M → Type 0
Answered disk old [] [] new = new ≡ old
Answered {M} disk old (order ∷ orders) (reply ∷ replies) new = (next : HeldState M) × Answers disk old order reply next
    × Answered disk next orders replies new
Answered disk old orders replies new = ⊥
