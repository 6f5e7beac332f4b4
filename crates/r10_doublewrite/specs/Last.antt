-- The last of some sectors that a block lies in.
use Rattle.std.specs.Prelude.{ℕ, suc, ◌+◌, ◌<◌, ◌≤◌, List, length, drop, slice_index}
use Rattle.r10_sector.specs.Held.{IsAmong}

-- The block lies in this one of the sectors that begin there, and in none after it.
pub record IsLast (per : ℕ) (firsts : List ℕ) (n i : ℕ) : Type 0 where
  pub among : i < length firsts
  pub from : slice_index firsts i ≤ n
  pub below : n < slice_index firsts i + per
  pub none_after : IsAmong per (drop (suc i) firsts) n → ⊥
