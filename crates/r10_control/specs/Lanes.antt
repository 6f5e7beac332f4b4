-- The lanes of one thread, and the machine's.
use Rattle.std.specs.Prelude.{◌≡◌, ℕ, ◌≤◌, List, [], ◌∷◌, map, find, Option, None, Some, Result, MatchResult, is_none, slice_get}
use Rattle.std.specs.Prelude.{if◌then◌else◌}
use Rattle.r10_count.specs.Checks.{first_broken}
use Rattle.r10_body.specs.declared.entry.Sample.{Sample}
use Rattle.r10_body.specs.declared.message.Message.{Message}
use Rattle.r10_body.specs.declared.refusal.Refusal.{Refusal}
use Rattle.r10_lane.specs.Lanes.{reached}
use Rattle.r10_machine.specs.Calls.{accepted, losing, overflowed, without}
use Rattle.r10_machine.specs.Checks.{channel_checks, offer_checks, offer_refusal}
use Rattle.r10_machine.specs.Machine.{Lane, Machine, change_first, is_channel, with_lane}
use Rattle.r10_refinement.specs.KeptState.{Kept}
use Rattle.r10_refinement.specs.Means.{KeptStepsTo, KeptStandsFor}
use Rattle.r10_medium.specs.Disk.{Image}
use Rattle.r10_machine.specs.declared.event.Event.{Event as EventValue}
use Rattle.r10_machine.specs.declared.reply.Reply.{Reply as ReplyValue}
use Rattle.r10_machine.specs.declared.reply.Reply.TheVariants.{Refused}

-- ---- the machine's lanes

abbrev pub unerased : Lane → Lane
unerased lane = record lane { erased = 0 }

-- these are the machine's lanes, but for what erases took
abbrev pub AreLanes : List Lane → Machine → Type 0
AreLanes lanes m = lanes ≡ map unerased m.lanes

-- of each lane the first samples were taken, so many of its channel
abbrev pub AreTaken : (ℕ → ℕ) → List Lane → List Lane → Type 0
AreTaken taken old new = new ≡ map (λ (lane : Lane). without (taken lane.spec.id) lane) old

-- in each of these lanes, which are quiet, waits what waits in the machine's
abbrev pub WaitQuietly : {L : Type 0} → (L → Option (List Sample)) → List L → List Lane → Type 0
WaitQuietly quiet [] [] = Unit {0}
WaitQuietly quiet (a ∷ lanes) (b ∷ machines) = (quiet a ≡ Some b.waiting) × WaitQuietly quiet lanes machines
WaitQuietly quiet lanes machines = ⊥

-- a step leads to a machine that is represented then and has these lanes, and the same files and cursors
pub record LeadsWith (k : Kept) (m : Machine) (event : EventValue) (reply : ReplyValue) (image : Image) (failures : ℕ)
    (lanes : List Lane) : Type 0 where
  pub machine : Machine
  pub led : KeptStepsTo k m event reply k image failures machine
  pub lanes_are : AreLanes lanes machine
  pub files : machine.files ≡ m.files
  pub cursors : machine.cursors ≡ m.cursors

-- from each machine that is represented and has these lanes, what a call answers leads to one that has those
abbrev pub AnswersWith : {T : Type 0} → List Lane → Kept → Image → ℕ → EventValue → (T → ReplyValue) → Result T Refusal → List Lane
    → Type 0
AnswersWith old k image failures event reply result new =
    (m : Machine) → KeptStandsFor k image failures m → AreLanes old m
    → MatchResult result (λ v. LeadsWith k m event (reply v) image failures new)
    (λ r. LeadsWith k m event (Refused r) image failures new)

-- ---- offers

-- what an offer to a channel answers, and the lanes that it leaves: counted as lost where nothing but the room was lacking
abbrev pub OffersTo : ℕ → List Lane → ℕ → Message → Result (Unit {0}) Refusal → List Lane → Type 0
OffersTo channel old count message result new =
    let lane = find (is_channel channel) old in
    let fine = is_none (first_broken (offer_checks lane count message)) in
    MatchResult result
    (λ _. (offer_refusal lane count message ≡ None) × (new ≡ change_first (is_channel channel) (accepted count message) old))
    (λ r. (offer_refusal lane count message ≡ Some r)
    × (new ≡ (if fine then change_first (is_channel channel) overflowed old else old)))

-- what a loss that is reported of a channel answers, and the lanes that it leaves: counted where there is such a channel
abbrev pub LosesOn : ℕ → List Lane → ℕ → Result (Unit {0}) Refusal → List Lane → Type 0
LosesOn channel old lost result new =
    let lane = find (is_channel channel) old in
    MatchResult result
    (λ _. (first_broken (channel_checks lane) ≡ None) × (new ≡ change_first (is_channel channel) (losing lost) old))
    (λ r. (first_broken (channel_checks lane) ≡ Some r) × (new ≡ old))

-- ---- what waits

-- the first message that waits in a lane, where there is the lane
abbrev pub first_waiting : Option Lane → Option Sample
first_waiting None = None
first_waiting (Some lane) = slice_get lane.waiting 0

-- what a call answers that takes the first message that waits on a channel, and the lanes that it leaves
abbrev pub TakesWaiting : ℕ → List Lane → Result (Option Sample) Refusal → List Lane → Type 0
TakesWaiting channel old result new =
    let lane = find (is_channel channel) old in
    MatchResult result
    (λ first. (first_broken (channel_checks lane) ≡ None) × (first ≡ first_waiting lane)
    × (new ≡ change_first (is_channel channel) (without 1) old))
    (λ r. (first_broken (channel_checks lane) ≡ Some r) × (new ≡ old))

-- Each machine that is represented and has these lanes: without the first message that waits on the channel it is represented,
-- and has those.
abbrev pub StandsWithout : ℕ → Kept → Image → ℕ → List Lane → List Lane → Type 0
StandsWithout channel k image failures old new =
    (m : Machine) → KeptStandsFor k image failures m → AreLanes old m
    → KeptStandsFor k image failures (with_lane channel (without 1) m) × AreLanes new (with_lane channel (without 1) m)

-- lanes with the same settings, which have reached as much or more
abbrev pub HaveRisen : List Lane → List Lane → Type 0
HaveRisen [] [] = Unit {0}
HaveRisen (a ∷ old) (b ∷ new) = ((b.spec ≡ a.spec) × (reached a ≤ reached b)) × HaveRisen old new
HaveRisen old new = ⊥
