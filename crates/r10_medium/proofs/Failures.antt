-- The failure count of a medium.
use Rattle.std.proofs.Common.{ℕ, ◌<◌, ◌≤◌, ◌-◌, ◌^◌, inl, inr, arith}
use Rattle.std.proofs.lemmas.Bool.{cases_lt}
use Rattle.r10_medium.specs.Disk.{Rose}

-- a failure after others
pub rose_later : (a b c : ℕ) → a ≤ b → b ≤ c → Rose b c → Rose a c
rose_later a b c first second rose = λ few. elim (cases_lt b (2 ^ 64 - 1)) [
  | inl less ↦ omega (arith, first, rose less)
  | inr more ↦ omega (arith, few, second, more)
]
