-- What workers ask of a recorder that they share, and what they are answered.
use Rattle.std.specs.Prelude.{◌≡◌, ℕ, Bool, true, false, not, List, Result, Ok, Err, if◌then◌else◌}
use Rattle.r10_body.specs.declared.refusal.Refusal.{Refusal}
use Rattle.r10_body.specs.declared.refusal.Refusal.TheVariants.{Failed, OutOfMemory}

-- Failed and OutOfMemory end the worker that is refused so; another refusal is passed over
abbrev pub ends : Refusal → Bool
ends r = elim r [ Failed ↦ true | OutOfMemory ↦ true | _ ↦ false ]

-- whether a worker goes on after an answer
abbrev pub goes_on : {T : Type 0} → Result T Refusal → Bool
goes_on (Ok x) = true
goes_on (Err r) = not (ends r)

-- from the old state to the new one these were asked, in this order and answered so, and they are as wanted
abbrev pub Asks : {S X : Type 0} → (S → List X → S → Type 0) → (List X → Type 0) → S → S → Type 0
Asks {S} {X} asked wanted old new = (asks : List X) × asked old asks new × wanted asks
