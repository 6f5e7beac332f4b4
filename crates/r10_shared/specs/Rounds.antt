-- What a writer asks: rounds of pumps and commits, and turns of rounds.
use Rattle.std.specs.Prelude.{◌≡◌, ℕ, ◌+◌, ◌<◌, Bool, true, false, nat_lt, List, [], ◌∷◌, ◌++◌, length, flat_map, Result, Ok, Err}
use Rattle.std.specs.Prelude.{if◌then◌else◌, ◌⊎◌}
use Rattle.std.specs.List.{AllByRecursion, list_any, list_all}
use Rattle.r10_body.specs.declared.refusal.Refusal.{Refusal}
use Rattle.r10_shared.specs.WorkerCalls.{ends, goes_on}
use Rattle.r10_shared.specs.declared.rounds.Round.{Round}
use Rattle.r10_shared.specs.declared.rounds.Turn.{Turn}
use Rattle.r10_shared.specs.declared.rounds.Turn.TheVariants.{Moved, Idle, Over}

-- ---- a round, of the recorder that is held

-- a pump of the channel at a place of the settings, of at most so many messages; a commit
pub data Asked : Type 0 where
  Pumps : ℕ → ℕ → Result ℕ Refusal → Asked
  Commits : Result (Unit {0}) Refusal → Asked

-- the channels from a place on are pumped in turn, each with 64 messages at most, and answer so
abbrev pub pumps_from : ℕ → List (Result ℕ Refusal) → List Asked
pumps_from place [] = []
pumps_from place (answer ∷ answers) = Pumps place 64 answer ∷ pumps_from (place + 1) answers

-- whether a pump moved a message
abbrev pub has_moved : Result ℕ Refusal → Bool
has_moved (Ok n) = nat_lt 0 n
has_moved (Err r) = false

-- what a pump comes to
abbrev pub came_to : Result ℕ Refusal → Turn
came_to (Ok n) = if nat_lt 0 n then Moved else Idle
came_to (Err r) = if ends r then Over else Idle

-- The pumps of a round of so many channels, and what it comes to by them. It is over with the first refusal that ends a
-- worker, and no channel is pumped after that.
-- Else each channel was pumped, and the round has moved something if one of the pumps did.
abbrev pub ArePumps : ℕ → List (Result ℕ Refusal) → Turn → Type 0
ArePumps channels answers Over = (before : List (Result ℕ Refusal)) × (r : Refusal) × (answers ≡ before ++ Err r ∷ [])
    × (list_all goes_on before ≡ true) × (length before < channels) × (ends r ≡ true)
ArePumps channels answers Moved = (length answers ≡ channels) × (list_all goes_on answers ≡ true)
    × (list_any has_moved answers ≡ true)
ArePumps channels answers Idle = (length answers ≡ channels) × (list_all goes_on answers ≡ true)
    × (list_any has_moved answers ≡ false)

-- a round after its commit: over if that was refused so that it ends a worker
abbrev pub committed : Turn → Result (Unit {0}) Refusal → Round
committed turn answer = record { turn = if goes_on answer then turn else Over; committed = true }

-- What a round asks after its pumps. One that is over shows nothing. One that moved something commits once, and so does the
-- last. Another asks nothing.
abbrev pub PublishesRound : Bool → Turn → List Asked → Round → Type 0
PublishesRound last Over shows round = (shows ≡ []) × (round ≡ record { turn = Over; committed = false })
PublishesRound false Idle shows round = (shows ≡ []) × (round ≡ record { turn = Idle; committed = false })
PublishesRound last turn shows round = (answer : Result (Unit {0}) Refusal) × (shows ≡ Commits answer ∷ [])
    × (round ≡ committed turn answer)

-- all that a round asks, where it is the last or not
pub record IsRound (channels : ℕ) (last : Bool) (round : Round) (asks : List Asked) : Type 0 where
  pub answers : List (Result ℕ Refusal)
  pub turn : Turn
  pub pumps : ArePumps channels answers turn
  pub shows : List Asked
  pub shows_are : PublishesRound last turn shows round
  pub asks_are : asks ≡ pumps_from 0 answers ++ shows

-- ---- turns, of the recorder that is shared

-- the writer looks whether all feeds are over, and control; it goes round, as the last time or not; it wakes the readers after
-- a commit; it announces that it waits; it sleeps
pub data Turned : Type 0 where
  Looks : Bool → Turned
  Goes : Bool → Round → Turned
  Tells : Turned
  Announces : Turned
  Sleeps : Turned

-- after a round that has committed the readers are woken
abbrev pub tells_of : Round → List Turned
tells_of round = if round.committed then Tells ∷ [] else []

-- a last round that moved nothing ends the writer
abbrev pub turn_after : Bool → Turn → Turn
turn_after true Idle = Over
turn_after last turn = turn

-- a turn: the writer looks whether all are over, and then goes round, as the last time exactly if they are
abbrev pub IsTurn : Turn → List Turned → Type 0
IsTurn turn asks = (over : Bool) × (round : Round) × (asks ≡ Looks over ∷ Goes over round ∷ tells_of round)
    × (turn ≡ turn_after over round.turn)

-- a wait: it announces that it waits, and makes one more turn; only if that moves nothing it sleeps
abbrev pub IsWait : Bool → List Turned → Type 0
IsWait true asks = (turn : List Turned) × ((IsTurn Moved turn × (asks ≡ Announces ∷ turn))
    ⊎ (IsTurn Idle turn × (asks ≡ (Announces ∷ turn) ++ Sleeps ∷ [])))
IsWait false asks = (turn : List Turned) × IsTurn Over turn × (asks ≡ Announces ∷ turn)

-- a turn, and a wait after one that moved nothing; whether the writer goes on
abbrev pub IsWriterStep : Bool → List Turned → Type 0
IsWriterStep true asks = IsTurn Moved asks ⊎ ((turn wait : List Turned) × IsTurn Idle turn × IsWait true wait
    × (asks ≡ turn ++ wait))
IsWriterStep false asks = IsTurn Over asks ⊎ ((turn wait : List Turned) × IsTurn Idle turn × IsWait false wait
    × (asks ≡ turn ++ wait))

abbrev pub all_of : List (List Turned) → List Turned
all_of steps = flat_map (λ step. step) steps

-- all that a writer asks: steps after which it goes on, and then one that ends it
pub record IsWriterRun (asks : List Turned) : Type 0 where
  pub steps : List (List Turned)
  pub last : List Turned
  pub go_on : AllByRecursion (IsWriterStep true) steps
  pub ends : IsWriterStep false last
  pub asks_are : asks ≡ all_of steps ++ last
