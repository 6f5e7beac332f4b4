-- What is published of a recorder.
use Rattle.std.specs.Prelude.{◌≡◌, ℕ, ◌<◌, ◌-◌, ◌^◌, min, List, [], ◌∷◌, ◌++◌, length, Option, None, Some, Result, MatchResult}
use Rattle.r10_body.specs.declared.refusal.Glance.{Glance}
use Rattle.r10_body.specs.declared.refusal.Refusal.{Refusal}
use Rattle.r10_control.specs.RecorderStatus.{last_shown}
use Rattle.r10_gauge.specs.Published.{triple, last_triple, commits_of}
use Rattle.r10_refinement.specs.KeptState.{Work, recording}
use Rattle.r10_held.specs.State.{HeldState}

-- the triple of so many publications, and of a file's number and its shown bytes, or of two zeros where there is no file
abbrev pub triple_of : ℕ → Option (ℕ × ℕ) → Glance
triple_of commits None = triple commits 0 0
triple_of commits (Some shown) = triple commits shown.0 shown.1

-- the triple that is published next, of a recorder that does this
abbrev pub next_triple : List Glance → Work → Glance
next_triple published work = triple_of (min (length published) (2 ^ 64 - 1)) (last_shown work)

-- while a file is recorded, and once something was published, the last triple is the number of publications, that file's
-- number and its shown bytes
abbrev pub LastIsShown : Work → List Glance → Type 0
LastIsShown (recording chain o) published = 0 < commits_of published
    → last_triple published ≡ triple_of (commits_of published) (last_shown (recording chain o))
LastIsShown work published = Unit {0}

-- ---- what a call does to it

-- nothing is published
abbrev pub StaysPublished : {M : Type 0} → HeldState M → HeldState M → Type 0
StaysPublished old new = (new.cell ≡ old.cell) × (new.published ≡ old.published)

-- where the call answers Ok one triple is published, of the recorder as it is then; else none
pub record Publishes {M T : Type 0} (result : Result T Refusal) (old new : HeldState M) : Type 0 where
  pub cell : new.cell ≡ old.cell
  pub published : MatchResult result (λ _. new.published ≡ old.published ++ next_triple old.published new.recorder.kept.work ∷ [])
      (λ _. new.published ≡ old.published)
