-- What an order asks of the recorder under the lock.
use Rattle.std.specs.Prelude.{◌≡◌, Option, None, Some, Result, Ok, Err}
use Rattle.r10_body.specs.declared.refusal.Refusal.{Refusal}
use Rattle.r10_held.specs.LockFact.{outlet_quiet, outlet_spec}
use Rattle.r10_held.specs.Publishing.{Publishes, StaysPublished}
use Rattle.r10_held.specs.Recorder.{AnswersSafely, CallStepsTaking, EffectBy, IsStopped, LeavesTaking, LeftNone, OwnsBy, RefusesBy}
use Rattle.r10_held.specs.Recorder.{RefusesReadied, StepsByTaking, StopsSafely, most_of, none_taken, nothing_lacks}
use Rattle.r10_held.specs.Recorder.{recorder_refusal}
use Rattle.r10_held.specs.State.{HeldState}
use Rattle.r10_machine.specs.Limits.{channel_ids}
use Rattle.r10_machine.specs.Machine.{rising}
use Rattle.r10_machine.specs.declared.event.Event.{Event}
use Rattle.r10_machine.specs.declared.event.Event.TheVariants as events
use Rattle.r10_machine.specs.declared.mode.Stopped.{Stopped}
use Rattle.r10_machine.specs.declared.reply.Reply.{Reply}
use Rattle.r10_machine.specs.declared.reply.Reply.TheVariants as replies
use Rattle.r10_medium.specs.Disk.{Disk}
use Rattle.r10_port.specs.Ends.{TookReceived, reached_by_outlet}
use Rattle.r10_shared.specs.declared.order.Order.{Order}
use Rattle.r10_shared.specs.declared.order.Order.TheVariants as orders

-- the call that it is
abbrev pub event_of : Order → Event
event_of orders.Mount = events.Mount
event_of orders.Dismount = events.Dismount
event_of (orders.Tick count parts) = events.Tick count parts
event_of (orders.Start name setup) = events.Start name setup
event_of orders.Stop = events.Stop
event_of (orders.Event number count) = events.Event number count
event_of orders.Commit = events.Commit
event_of orders.Seal = events.Seal
event_of orders.Erase = events.Erase

-- the order that an event is
abbrev pub order_of : Event → Option Order
order_of events.Mount = Some orders.Mount
order_of events.Dismount = Some orders.Dismount
order_of (events.Tick count parts) = Some (orders.Tick count parts)
order_of (events.Start name setup) = Some (orders.Start name setup)
order_of events.Stop = Some orders.Stop
order_of (events.Event number count) = Some (orders.Event number count)
order_of events.Commit = Some orders.Commit
order_of events.Seal = Some orders.Seal
order_of events.Erase = Some orders.Erase
order_of event = None

-- the same answer, of a stop as a reply
abbrev pub IsToldAs : Result Stopped Refusal → Result Reply Refusal → Type 0
IsToldAs (Ok stopped) reported = reported ≡ Ok (replies.Stopped stopped)
IsToldAs (Err r) reported = reported ≡ Err r

-- what it answers is a step of each machine that the recorder represents, to one that it represents then; of a stop, with what
-- it took from the lanes
abbrev pub Performs : {M : Type 0} → (M → Disk) → Order → HeldState M → HeldState M → Result Reply Refusal → Type 0
Performs disk orders.Stop old new result =
    (stopped : Result Stopped Refusal) × IsToldAs stopped result
    × StepsByTaking TookReceived outlet_quiet outlet_spec (rising (channel_ids old.recorder.kept.config.channels))
    (most_of old.recorder.kept.config.channels) IsStopped LeftNone old.recorder.kept (disk old.recorder.medium).blocks
    (disk old.recorder.medium).failures events.Stop (λ said. replies.Stopped said) stopped
    new.recorder.kept (disk new.recorder.medium).blocks (disk new.recorder.medium).failures old.recorder.lanes new.recorder.lanes
Performs disk order old new result =
    CallStepsTaking none_taken old.recorder.kept (disk old.recorder.medium).blocks (disk old.recorder.medium).failures
    (event_of order) (λ reply. reply) result
    new.recorder.kept (disk new.recorder.medium).blocks (disk new.recorder.medium).failures

-- a start, a stop, a commit and an erase publish where they answer Ok; nothing else does
abbrev pub PublishesAs : {M : Type 0} → Order → HeldState M → HeldState M → Result Reply Refusal → Type 0
PublishesAs (orders.Start name setup) old new result = Publishes result old new
PublishesAs orders.Stop old new result = Publishes result old new
PublishesAs orders.Commit old new result = Publishes result old new
PublishesAs orders.Erase old new result = Publishes result old new
PublishesAs order old new result = StaysPublished old new

-- ---- each as its own call says it

-- refused as the call: the first check that doesn't hold, which leaves all; else for the cause that the call has for this refusal
abbrev pub RefusesAs : {M : Type 0} → (M → Disk) → Order → HeldState M → HeldState M → Refusal → Type 0
RefusesAs disk orders.Stop old new r =
    RefusesReadied disk (recorder_refusal old.recorder.kept events.Stop) nothing_lacks old.recorder.kept new.recorder.kept
    old.recorder.medium new.recorder.medium r
RefusesAs disk order old new r = RefusesBy disk (event_of order) old.recorder.kept new.recorder.kept old.recorder.medium
    new.recorder.medium r

-- what was done, whatever files the medium has
abbrev pub HasDone : {M : Type 0} → (M → Disk) → Order → HeldState M → HeldState M → Type 0
HasDone disk order old new = EffectBy (event_of order) old.recorder.kept (disk old.recorder.medium) new.recorder.kept
    (disk new.recorder.medium)

-- the lanes stay, but for what a stop takes from them
abbrev pub LanesStayBut : {M : Type 0} → Order → HeldState M → HeldState M → Type 0
LanesStayBut orders.Stop old new = Unit {0}
LanesStayBut order old new = new.recorder.lanes ≡ old.recorder.lanes

-- Of the recorder's own files: after an erase they have no entry; a stop puts what it took after theirs, as its step says
-- (`Performs`); no other order adds an entry of a channel.
abbrev pub OwnsAs : {M : Type 0} → (M → Disk) → Order → HeldState M → HeldState M → Result Reply Refusal → Type 0
OwnsAs disk orders.Stop old new result = Unit {0}
OwnsAs disk order old new result = OwnsBy (event_of order) result old.recorder.kept
    (disk old.recorder.medium).blocks new.recorder.kept (disk new.recorder.medium).blocks

-- at every moment of it a loss of power leaves what the call's own clauses say
abbrev pub LeavesAs : {M : Type 0} → (M → Disk) → Order → HeldState M → HeldState M → Result Reply Refusal → Type 0
LeavesAs disk orders.Stop old new result =
    ((stopped : Result Stopped Refusal) × IsToldAs stopped result
    × StopsSafely outlet_quiet outlet_spec old.recorder.lanes old.recorder.kept
    (disk old.recorder.medium) stopped new.recorder.kept (disk new.recorder.medium))
    × LeavesTaking TookReceived reached_by_outlet outlet_spec old.recorder.kept (disk old.recorder.medium)
    (disk new.recorder.medium) old.recorder.lanes new.recorder.lanes
LeavesAs disk order old new result = AnswersSafely old.recorder.kept (disk old.recorder.medium) (event_of order)
    (λ reply. reply) result new.recorder.kept (disk new.recorder.medium)
