-- What is carried out of a lane between threads into a recorder's lane.
use Rattle.std.specs.Prelude.{◌≡◌, ◌≢◌, ◌⊎◌, ℕ, ◌==◌, true, false, cond, List, [], ◌∷◌, ◌++◌, Option, None, Some}
use Rattle.r10_body.specs.declared.entry.Sample.{Sample}
use Rattle.r10_medium.specs.Disk.{Disk}
use Rattle.r10_port.specs.Ends.{Receiving, TookReceived, next_known}
use Rattle.r10_calls.specs.Carrying.{DoesEach, WouldRefuse, events_of}
use Rattle.r10_calls.specs.declared.desk.Desk.{Desk as DeskValue}
use Rattle.r10_ends.specs.declared.carrier.Carrier.{Carrier}
use Rattle.r10_carrier.specs.declared.carry.Carry.{Carry}

-- ---- one sample

-- the sample in hand, where there is one
abbrev pub in_hand : Option Sample → List Sample
in_hand None = []
in_hand (Some x) = x ∷ []

-- what is answered of a sample whose offer would be refused by this number: 0 where the lane is full
abbrev pub why_not : ℕ → ℕ
why_not number = cond (number == 12) 0 number

-- The loss before it was counted, it was offered, and nothing is in hand. Or an offer of it would be refused: then nothing was
-- done, and it is in hand as it was.
abbrev pub CarriesSample : {M : Type 0} → (M → Disk) → ℕ → DeskValue M → Sample → Carry → DeskValue M → Option Sample → Type 0
CarriesSample disk channel old x is new hand =
    ((is ≡ record { number = 0; channel = channel; carried = true }) × (hand ≡ None) × DoesEach disk old (events_of channel x) new)
    ⊎ ((number : ℕ) × WouldRefuse old channel x number
    × (is ≡ record { number = why_not number; channel = channel; carried = false })
    × (hand ≡ Some x) × (new ≡ old))

-- of these samples, which are at most one, the first; where there is none, nothing is done
abbrev pub CarriesFirst : {M : Type 0} → (M → Disk) → ℕ → DeskValue M → List Sample → Carry → DeskValue M → Option Sample → Type 0
CarriesFirst disk channel old [] is new hand = (is ≡ record { number = 0; channel = channel; carried = false }) × (new ≡ old)
    × (hand ≡ None)
CarriesFirst disk channel old (x ∷ []) is new hand = CarriesSample disk channel old x is new hand
CarriesFirst disk channel old (x ∷ y ∷ rest) is new hand = ⊥

-- the next was received, where none was in hand: one that is known to come next for certain
pub record ReachesNext (from : Receiving) (hand : Option Sample) (to : Receiving) (now : Option Sample) : Type 0 where
  pub samples : List Sample
  pub took : TookReceived from samples to
  pub hand_is : in_hand now ≡ in_hand hand ++ samples
  pub one : in_hand hand ≢ [] → samples ≡ []
  pub known : (x : Sample) → hand ≡ None → next_known from.ahead ≡ Some x → samples ≡ x ∷ []

-- ---- a call

-- the sample in hand was carried, or, where there was none, the next that was received: one that is known to come next for certain
pub record Carries {M : Type 0} (disk : M → Disk) (old : DeskValue M) (from : Carrier) (is : Carry) (new : DeskValue M)
    (to : Carrier) : Type 0 where
  pub samples : List Sample
  pub took : TookReceived from.outlet samples to.outlet
  pub place : to.place ≡ from.place
  pub known : (x : Sample) → from.hand ≡ None → next_known from.outlet.ahead ≡ Some x → samples ≡ x ∷ []
  pub carries : CarriesFirst disk from.outlet.spec.id old (in_hand from.hand ++ samples) is new to.hand
