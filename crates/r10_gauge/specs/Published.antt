-- What is published, and what contracts see of the ends of a gauge.
use Rattle.std.specs.Prelude.{◌≡◌, ℕ, ◌-◌, ◌^◌, min, List, [], ◌∷◌, length, Some, slice_get}
use Rattle.atomic_table.specs.Seated.{TableId}
use Rattle.r10_body.specs.declared.refusal.Glance.{Glance}

-- the publishing end: which gauge it is, and all that was published, the three zeros of its making first
pub record PublishingEnd : Type 0 where
  pub cell : TableId
  pub published : List Glance

-- a pass: at which gauge it looks, and what it has seen
pub record LookingEnd : Type 0 where
  pub cell : TableId
  pub seen : List Glance

abbrev pub triple : ℕ → ℕ → ℕ → Glance
triple commits file bytes = record { commits = commits; file = file; bytes = bytes }

-- three zeros, with which each gauge begins
abbrev pub nothing_published : List Glance
nothing_published = triple 0 0 0 ∷ []

abbrev pub last_triple : List Glance → Glance
last_triple [] = triple 0 0 0
last_triple (x ∷ []) = x
last_triple (x ∷ y ∷ xs) = last_triple (y ∷ xs)

-- how often something was published after the three zeros, up to the greatest number of 64 bits
abbrev pub commits_of : List Glance → ℕ
commits_of published = min (length published - 1) (2 ^ 64 - 1)

-- the triple at each place has the place as its number of commits, up to the greatest of 64 bits
abbrev pub AreNumbered : List Glance → Type 0
AreNumbered published = (place : ℕ) (x : Glance) → slice_get published place ≡ Some x → x.commits ≡ min place (2 ^ 64 - 1)
