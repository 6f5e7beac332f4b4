-- What a body is when all its entries fit.
use Rattle.std.proofs.Common.{ℕ, ◌^◌, ◌<◌, Bool, true, false, List, [], length, IsTrue, MatchBool, refl}
use Rattle.std.specs.List.{AllWithin, HoldsAt}
use Rattle.std.proofs.lemmas.List.Elements.{All-from_all_within, recursion_from_All, All-from_recursion}
use Rattle.r10_b1553.specs.Bus.{FitsBus, FitsBusBody, bus_of}
use Rattle.r10_b1553.specs.declared.entry.BusEntry.{BusEntry}

pub all_decides : (entries : List BusEntry) (all : Bool) → 0 < length entries → length entries < 2 ^ 24
    → MatchBool all (AllWithin FitsBus entries 0 (length entries)) ((k : ℕ) × (k < length entries) × HoldsAt (λ e. FitsBus e → ⊥) entries k)
    → (IsTrue all → FitsBusBody entries) × (FitsBusBody entries → IsTrue all)
all_decides entries true some few fit =
    let fields = recursion_from_All FitsBus entries (All-from_all_within FitsBus entries fit) in
    (λ h. record { some = some; counted = few; fields = fields }, λ h. refl)
all_decides entries false some few wrong =
    let none : BusEntry = bus_of 0 0 0 [] in
    (λ h. absurd cc, λ body. absurd (wrong.2 none (All-from_recursion FitsBus entries body.fields wrong.0 none wrong.1)))
