-- What a player hands on to its sink.
use Rattle.std.specs.Prelude.{◌≡◌, ◌⊎◌, List, [], ◌∷◌, ◌++◌, Option, Some, None, Result, Ok, Err}
use Rattle.r10_held.specs.declared.transcript.Instalment.{Instalment}
use Rattle.r10_shared.specs.Readings.{HasReadOn, ReadsOn}
use Rattle.r10_shared.specs.declared.reading.Transcribing.{Transcribing}

-- a sink accepts the instalment, after all that it accepted before; or it gives this one back, and has what it had
abbrev pub Accepts : Instalment → Result (Unit {0}) Instalment → List Instalment → List Instalment → Type 0
Accepts i (Ok x) before after = after ≡ before ++ i ∷ []
Accepts i (Err back) before after = (back ≡ i) × (after ≡ before)

-- nothing is kept, or one instalment that the sink refused
abbrev pub IsHandedOn : {K : Type 0} → (K → Type 0) → K → List Instalment → Type 0
IsHandedOn has_refused sink kept = (kept ≡ []) ⊎ ((i : Instalment) × (kept ≡ i ∷ []) × has_refused sink)

-- A player has read on: what its sink accepted, and then what is kept, grew by what the player took. All of it is handed on,
-- up to the first that the sink refuses.
pub record HandsTo {K : Type 0} (accepted : K → List Instalment) (has_refused : K → Type 0) (old : Transcribing) (sink : K)
    (new : Transcribing) (later : K) : Type 0 where
  pub took : HasReadOn old.player (accepted sink ++ old.instalments.items) new.player (accepted later ++ new.instalments.items)
  pub handed : IsHandedOn has_refused sink old.instalments.items → IsHandedOn has_refused later new.instalments.items

-- a player without a sink writes all down; no sink comes or goes
abbrev pub HandsOnInstalments : {K : Type 0} → (K → List Instalment) → (K → Type 0) → Transcribing → Option K → Transcribing
    → Option K → Type 0
HandsOnInstalments accepted has_refused old None new None = ReadsOn old new
HandsOnInstalments accepted has_refused old (Some sink) new (Some later) = HandsTo accepted has_refused old sink new later
HandsOnInstalments accepted has_refused old None new (Some later) = ⊥
HandsOnInstalments accepted has_refused old (Some sink) new None = ⊥
