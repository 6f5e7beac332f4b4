-- What a reader asks: looks and instalments.
use Rattle.std.specs.Prelude.{◌≡◌, ℕ, ◌==◌, ◌||◌, ◌&&◌, ◌^◌, ◌-◌, Bool, true, false, not, List, [], ◌∷◌, ◌++◌, flat_map, Result}
use Rattle.r10_body.specs.declared.refusal.Refusal.{Refusal}
use Rattle.r10_shared.specs.WorkerCalls.{goes_on}

-- the reader announces that it waits; it looks whether the writer has ended, and how often it has committed; it sleeps; it
-- takes an instalment
pub data Watched : Type 0 where
  Announces : Watched
  Ended : Bool → Watched
  Shown : ℕ → Watched
  Sleeps : Watched
  Reads : Result (Unit {0}) Refusal → Watched

-- What follows on a look. If nothing is due the reader sleeps. Else it takes an instalment, and goes on unless the writer had
-- ended or the refusal ends a worker.
abbrev pub Follows : Bool → Bool → List Watched → Bool → Type 0
Follows false last rest on = (rest ≡ Sleeps ∷ []) × (on ≡ true)
Follows true last rest on = (answer : Result (Unit {0}) Refusal) × (rest ≡ Reads answer ∷ []) × (on ≡ (goes_on answer && not last))

-- A look, after so many commits were seen and when so many were made. An instalment is due if more was shown since, or the
-- writer has ended.
pub record IsLook (seen shown : ℕ) (on : Bool) (asks : List Watched) : Type 0 where
  pub last : Bool
  pub rest : List Watched
  pub follows : Follows (last || not (shown == seen)) last rest on
  pub asks_are : asks ≡ Announces ∷ Ended last ∷ Shown shown ∷ rest

-- a look, with the commits that were made then
pub record Look : Type 0 where
  pub shown : ℕ
  pub asks : List Watched

-- looks in turn, after each of which the reader goes on, from so many commits seen to so many
abbrev pub EachLook : ℕ → List Look → ℕ → Type 0
EachLook seen [] now = now ≡ seen
EachLook seen (l ∷ looks) now = IsLook seen l.shown true l.asks × EachLook l.shown looks now

abbrev pub asked_in : List Look → List Watched
asked_in looks = flat_map (λ (l : Look). l.asks) looks

-- all that a reader asks: looks after which it goes on, and then one that ends it. At first it has seen 2^64 - 1 commits,
-- which are never made.
pub record IsWatching (asks : List Watched) : Type 0 where
  pub looks : List Look
  pub seen : ℕ
  pub last : Look
  pub go_on : EachLook (2 ^ 64 - 1) looks seen
  pub ends : IsLook seen last.shown false last.asks
  pub asks_are : asks ≡ asked_in looks ++ last.asks
