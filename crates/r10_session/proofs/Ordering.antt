-- The orders that events are, one after the other.
use Rattle.std.proofs.Common.{◌≡◌, List, [], ◌∷◌, ◌++◌, map, append_assoc, sym, ap, subst, ◌∙◌, Option, Some}
use Rattle.std.specs.Prelude.{IsSome}
use Rattle.std.specs.List.{All}
use Rattle.std.proofs.lemmas.List.{append-nil, map-append}
use Rattle.std.proofs.lemmas.List.Elements.{All-head, All-rest}
use Rattle.r10_machine.specs.declared.event.Event.{Event}
use Rattle.r10_shared.specs.Orders.{order_of}
use Rattle.r10_shared.specs.declared.order.Order.{Order}

abbrev some_orders : List Order → List (Option Order)
some_orders orders = map (λ (order : Order). Some order) orders

abbrev events_orders : List Event → List (Option Order)
events_orders events' = map (λ (event : Event). order_of event) events'

-- one order more
pub one_more : (orders : List Order) (before rest : List Event) (all : List (Option Order)) (event : Event) (order : Order) → map (λ (order : Order). Some order) orders ++ map (λ (event : Event). order_of event) before ≡ all → before ≡ event ∷ rest → order_of event ≡ Some order
    → map (λ (order : Order). Some order) (orders ++ order ∷ []) ++ map (λ (event : Event). order_of event) rest ≡ all
one_more orders before rest all event order so split is =
    ap (λ (l : List (Option Order)). l ++ events_orders rest) (map-append (λ (o : Order). Some o) orders (order ∷ [])) ∙ append_assoc (some_orders orders) (Some order ∷ []) (events_orders rest) ∙ ap (λ (o : Option Order). some_orders orders ++ (o ∷ events_orders rest)) (sym is)
    ∙ ap (λ (l : List Event). some_orders orders ++ events_orders l) (sym split) ∙ so

-- the first of those that are left is an order
pub first_is : (before rest : List Event) (event : Event) → All (λ (event : Event). IsSome (order_of event)) before → before ≡ event ∷ rest → IsSome (order_of event)
first_is before rest event left split = All-head (λ (event : Event). IsSome (order_of event)) event rest (subst (λ (l : List Event). All (λ (event : Event). IsSome (order_of event)) l) split left)

pub rest_are : (before rest : List Event) (event : Event) → All (λ (event : Event). IsSome (order_of event)) before → before ≡ event ∷ rest → All (λ (event : Event). IsSome (order_of event)) rest
rest_are before rest event left split = All-rest (λ (event : Event). IsSome (order_of event)) event rest before split left
