-- The rule of a gauge's cell, and what each step tells the seat that makes it.
use Rattle.std.specs.Prelude.{◌≡◌, ℕ, ◌<◌, Bool, true, false, List, [], ◌∷◌, ◌++◌, length, slice_index}
use mathlib.Core.Option.{some}
use mathlib.Core.List.{IsPrefix}
use lib.ListN.{get_elem?}
use Rattle.r10_body.specs.declared.refusal.Glance.{Glance}
use Rattle.r10_gauge.specs.Published.{triple, nothing_published, last_triple}
use Rattle.r10_gauge.specs.declared.cell.SeatKnows.{SeatKnows}

-- the triple that the words are
abbrev pub triple_of_words : List ℕ → Glance
triple_of_words words = triple (slice_index words 0) (slice_index words 1) (slice_index words 2)

-- a seat that met no other
abbrev pub seat_knowing : Bool → List Glance → SeatKnows
seat_knowing writes seen = record { writes = writes; seen = seen; met = [] }

-- the seat that publishes
abbrev pub writing_seat : List Glance → SeatKnows
writing_seat seen = seat_knowing true seen

-- a seat that looks
abbrev pub reading_seat : List Glance → SeatKnows
reading_seat seen = seat_knowing false seen

-- the seat of the making
abbrev pub making_seat : SeatKnows
making_seat = writing_seat nothing_published

-- a seat that met one which had seen so much
abbrev pub having_met : SeatKnows → List Glance → SeatKnows
having_met v seen = record v { met = seen }

-- a seat that another met
abbrev pub spent_seat : SeatKnows
spent_seat = reading_seat []

-- what a seat has seen is a beginning of what is published, and so is what one that it met had seen; the one that publishes
-- has seen all of it
abbrev pub SeesFront : ℕ → List Glance → ℕ → SeatKnows → Type 0
SeesFront writer published by v = IsPrefix v.seen published × IsPrefix v.met published
    × (v.writes ≡ true → (by ≡ writer) × (v.seen ≡ published))

-- the rule: there is one list, of which so much is known, whose last triple the words are, and each seat sees a front of it
abbrev pub KeepsOneList : (List Glance → Type 0) → List ℕ → List SeatKnows → Type 0
KeepsOneList keeps words views =
    (writer : ℕ) × (published : List Glance) × (0 < length published) × (last_triple published ≡ triple_of_words words)
    × keeps published
    × ((by : ℕ) (v : SeatKnows) → get_elem? views by ≡ some v → SeesFront writer published by v)

-- the list has grown by the triple that the words now are
abbrev pub GrewByWords : SeatKnows → List ℕ → List ℕ → SeatKnows → Type 0
GrewByWords v before after w = w ≡ writing_seat (v.seen ++ triple_of_words after ∷ [])

-- all that was published at that moment was seen, of which what had been seen is a beginning; the words are its last triple.
-- A seat that publishes is again one that met no other. What the one that it met had seen is a beginning of all that is published.
abbrev pub SawAll : (List Glance → Type 0) → SeatKnows → List ℕ → List ℕ → SeatKnows → Type 0
SawAll keeps v before after w =
    (w.writes ≡ v.writes) × IsPrefix v.seen w.seen × (last_triple w.seen ≡ triple_of_words after) × keeps w.seen
    × (0 < length w.seen)
    × (v.writes ≡ true → (w ≡ writing_seat v.seen) × IsPrefix v.met v.seen)
