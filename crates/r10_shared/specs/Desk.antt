-- What workers asked of the recorder that they share, and what was done then to what the lock kept at the time.
use Rattle.std.specs.Prelude.{◌≡◌, ℕ, ◌+◌, ◌%◌, ◌^◌, Bool, true, false, List, [], ◌∷◌, length, slice_index_or, Result, None, IfErr}
use Rattle.std.specs.Prelude.{OnOk}
use Rattle.std.specs.List.{AllByRecursion}
use Rattle.r10_body.specs.declared.refusal.Refusal.{Refusal}
use Rattle.r10_body.specs.declared.spec.ChannelSpec.{ChannelSpec}
use Rattle.r10_held.specs.LockFact.{LockFact, outlet_quiet, outlet_spec}
use Rattle.r10_held.specs.Naming.{ChannelRing}
use Rattle.r10_held.specs.Publishing.{Publishes, StaysPublished}
use Rattle.r10_held.specs.Recorder.{CallStepsTaking, CommitEffect, CountsMoved, HadRoom, PumpEffect, StepsByTaking, none_taken}
use Rattle.r10_held.specs.Recorder.{recorder_refusal}
use Rattle.r10_held.specs.State.{HeldState}
use Rattle.r10_machine.specs.declared.event.Event.TheVariants as events
use Rattle.r10_machine.specs.declared.reply.Reply.{Reply}
use Rattle.r10_machine.specs.declared.reply.Reply.TheVariants as replies
use Rattle.r10_medium.specs.Disk.{Disk}
use Rattle.r10_port.specs.Ends.{TookReceived}
use Rattle.r10_shared.specs.WorkerCalls.{Asks}
use Rattle.r10_shared.specs.Giving.{Given}
use Rattle.r10_shared.specs.Giving.Given.{Gives, Wakes}
use Rattle.r10_shared.specs.Orders.{HasDone, LanesStayBut, LeavesAs, OwnsAs, Performs, PublishesAs, RefusesAs, event_of}
use Rattle.r10_shared.specs.Rounds.{Asked, IsRound, Turned}
use Rattle.r10_shared.specs.Rounds.Asked.{Commits, Pumps}
use Rattle.r10_shared.specs.Rounds.Turned.{Announces, Goes, Looks, Sleeps, Tells}
use Rattle.r10_shared.specs.Watching.{Watched}
use Rattle.r10_shared.specs.declared.order.Order.{Order}
use Rattle.r10_shared.specs.declared.rounds.Round.{Round}

-- a pump of the channel at a place of the settings: its lane alone gives, at most so many messages, and nothing is published
pub record PumpsPlace {M : Type 0} (disk : M → Disk) (place most : ℕ) (answer : Result ℕ Refusal)
    (old new : HeldState M) : Type 0 where
  pub channel : ℕ
  pub is : (d : ChannelSpec) → (slice_index_or old.recorder.kept.config.channels place d).id ≡ channel
  pub passed : OnOk answer (recorder_refusal old.recorder.kept (events.Pump channel most) ≡ None)
  pub takes : StepsByTaking TookReceived outlet_quiet outlet_spec (channel ∷ []) (λ _. most) CountsMoved HadRoom old.recorder.kept
      (disk old.recorder.medium).blocks (disk old.recorder.medium).failures (events.Pump channel most) (λ n. replies.Moved n) answer
      new.recorder.kept (disk new.recorder.medium).blocks (disk new.recorder.medium).failures old.recorder.lanes new.recorder.lanes
  pub effect : OnOk answer (PumpEffect old.recorder.kept (disk old.recorder.medium) new.recorder.kept (disk new.recorder.medium))
  pub gauge : StaysPublished old new
  pub config : new.recorder.kept.config ≡ old.recorder.kept.config

-- a commit
pub record CommitsNow {M : Type 0} (disk : M → Disk) (answer : Result (Unit {0}) Refusal) (old new : HeldState M) : Type 0 where
  pub passed : OnOk answer (recorder_refusal old.recorder.kept events.Commit ≡ None)
  pub steps : CallStepsTaking none_taken old.recorder.kept (disk old.recorder.medium).blocks
      (disk old.recorder.medium).failures events.Commit (λ _. replies.Done) answer new.recorder.kept
      (disk new.recorder.medium).blocks (disk new.recorder.medium).failures
  pub effect : OnOk answer (CommitEffect old.recorder.kept (disk old.recorder.medium) new.recorder.kept (disk new.recorder.medium))
  pub publishes : Publishes answer old new
  pub lanes : new.recorder.lanes ≡ old.recorder.lanes
  pub config : new.recorder.kept.config ≡ old.recorder.kept.config

abbrev pub DoesAsked : {M : Type 0} → (M → Disk) → Asked → HeldState M → HeldState M → Type 0
DoesAsked disk (Pumps place most answer) old new = PumpsPlace disk place most answer old new
DoesAsked disk (Commits answer) old new = CommitsNow disk answer old new

-- these were done, one after the other
abbrev pub DoesAll : {M : Type 0} → (M → Disk) → HeldState M → List Asked → HeldState M → Type 0
DoesAll disk old [] new = new ≡ old
DoesAll {M} disk old (ask ∷ asks) new = (mid : HeldState M) × DoesAsked disk ask old mid × DoesAll disk mid asks new

-- how many channels there are
abbrev pub channel_count : {M : Type 0} → HeldState M → ℕ
channel_count held = length held.recorder.kept.config.channels

-- a round, of what the lock kept at the time
pub record WentRound {M : Type 0} (disk : M → Disk) (rings : List ChannelRing) (last : Bool) (came : Round) : Type 0 where
  pub old : HeldState M
  pub new : HeldState M
  pub known : LockFact disk rings old.recorder old.published
  pub round : Asks (DoesAll disk) (IsRound (channel_count old) last came) old new

-- an order, to what the lock kept at the time
pub record WasGiven {M : Type 0} (disk : M → Disk) (rings : List ChannelRing) (order : Order)
    (answer : Result Reply Refusal) : Type 0 where
  pub old : HeldState M
  pub new : HeldState M
  pub known : LockFact disk rings old.recorder old.published
  pub passed : OnOk answer (recorder_refusal old.recorder.kept (event_of order) ≡ None)
  pub refused : IfErr answer (RefusesAs disk order old new)
  pub performs : Performs disk order old new answer
  pub effect : OnOk answer (HasDone disk order old new)
  pub lanes : LanesStayBut order old new
  pub owned : OwnsAs disk order old new answer
  pub power_loss : LeavesAs disk order old new answer
  pub publishes : PublishesAs order old new answer

-- ---- each thing that a worker asked, as it was done

abbrev pub WasTurned : {M : Type 0} → (M → Disk) → List ChannelRing → Turned → Type 0
WasTurned disk rings (Goes last round) = WentRound disk rings last round
WasTurned disk rings turned = Unit {0}

abbrev pub WasAsked : {M : Type 0} → (M → Disk) → List ChannelRing → Given → Type 0
WasAsked disk rings (Gives order answer) = WasGiven disk rings order answer
WasAsked disk rings given = Unit {0}

-- ---- a worker past the gate

-- the number of a worker, so many after the first
abbrev pub number_after : ℕ → ℕ → ℕ
number_after first n = (first + n) % 2 ^ 64

-- a worker that the gate let through asked what is wanted; another asked nothing
abbrev pub IfLet : {X : Type 0} → Bool → (List X → Type 0) → List X → Type 0
IfLet true wanted asks = wanted asks
IfLet false wanted asks = asks ≡ []

-- the gate gave this answer to the worker, which asked so, and each thing was done
pub record Worked {X : Type 0} (answers : Bool → Type 0) (wanted : List X → Type 0) (was_done : X → Type 0) : Type 0 where
  pub answer : Bool
  pub answered : answers answer
  pub asks : List X
  pub as_wanted : IfLet answer wanted asks
  pub done : AllByRecursion was_done asks

-- of what a reader asked there is nothing more here; ReadsOn has what it wrote down
abbrev pub IsNoted : Watched → Type 0
IsNoted watched = Unit {0}
