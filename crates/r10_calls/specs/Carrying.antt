-- What is carried into a recorder's lane: a message with the loss before it.
use Rattle.std.specs.Prelude.{◌≡◌, ℕ, ◌==◌, cond, List, [], ◌∷◌, ◌++◌, Some}
use Rattle.r10_body.specs.Refusals.{refusal_number}
use Rattle.r10_body.specs.declared.entry.Sample.{Sample}
use Rattle.r10_body.specs.declared.gap.Gap.{Gap}
use Rattle.r10_body.specs.declared.gap.Gap.TheVariants.{Whole, Lost, Unknown}
use Rattle.r10_body.specs.declared.refusal.Refusal.{Refusal}
use Rattle.r10_machine.specs.Checks.{offer_refusal}
use Rattle.r10_machine.specs.Machine.{lane_in}
use Rattle.r10_machine.specs.declared.event.Event.{Event as EventValue}
use Rattle.r10_machine.specs.declared.event.Event.TheVariants as events
use Rattle.r10_medium.specs.Disk.{Disk}
use Rattle.r10_calls.specs.EventCalls.{DoesEvent, reply_number}
use Rattle.r10_calls.specs.declared.desk.Desk.{Desk as DeskValue}

-- how many messages were lost before it
abbrev pub lost_of : Gap → ℕ
lost_of Whole = 0
lost_of (Lost n) = n
lost_of Unknown = 1

-- the loss before it, where there was one, and its offer
abbrev pub events_of : ℕ → Sample → List EventValue
events_of channel x = cond (lost_of x.gap == 0) [] (events.Lose channel (lost_of x.gap) ∷ [])
    ++ events.Offer channel x.count x.message ∷ []

-- each of these events was given, and answered 0
abbrev pub DoesEach : {M : Type 0} → (M → Disk) → DeskValue M → List EventValue → DeskValue M → Type 0
DoesEach disk old [] new = new ≡ old
DoesEach {M} disk old (event ∷ events) new = (mid : DeskValue M) × DoesEvent disk old event (λ reply. reply_number reply ≡ 0) mid
    × DoesEach disk mid events new

-- an offer of it to the channel would be refused by this number
pub record WouldRefuse {M : Type 0} (desk : DeskValue M) (channel : ℕ) (x : Sample) (number : ℕ) : Type 0 where
  pub refusal : Refusal
  pub first : offer_refusal (lane_in channel desk.world.recorder.lanes) x.count x.message ≡ Some refusal
  pub number_is : number ≡ refusal_number refusal
