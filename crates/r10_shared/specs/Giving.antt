-- What control asks: the orders in turn.
use Rattle.std.specs.Prelude.{◌≡◌, true, false, List, [], ◌∷◌, Result, ◌⊎◌}
use Rattle.r10_body.specs.declared.refusal.Refusal.{Refusal}
use Rattle.r10_machine.specs.declared.reply.Reply.{Reply}
use Rattle.r10_shared.specs.WorkerCalls.{goes_on}
use Rattle.r10_shared.specs.declared.order.Order.{Order}

-- an order and its answer; the writer is woken
pub data Given : Type 0 where
  Gives : Order → Result Reply Refusal → Given
  Wakes : Given

-- each order is given once, in turn, up to the first whose refusal ends control; the writer is woken after each
abbrev pub GivesInTurn : List Order → List Given → Type 0
GivesInTurn [] [] = Unit {0}
GivesInTurn (order ∷ orders) (Gives given answer ∷ Wakes ∷ asks) =
    (given ≡ order) × (((goes_on answer ≡ true) × GivesInTurn orders asks) ⊎ ((goes_on answer ≡ false) × (asks ≡ [])))
GivesInTurn orders asks = ⊥
