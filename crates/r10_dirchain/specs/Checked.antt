-- The answer of a check of a directory.
use Rattle.std.specs.Prelude.{◌≡◌, ℕ, Bool, List, Some}
use Rattle.r10_count.specs.Checks.{first_broken}
use Rattle.r10_dirchain.specs.declared.read.ChainError.{ChainError}
use Rattle.r10_dirchain.specs.declared.read.ChainError.TheVariants.{BadDirectory, Medium, OutOfMemory}

abbrev pub IsCheckError : List (Bool × ℕ) → ChainError → Type 0
IsCheckError rules (BadDirectory n) = first_broken rules ≡ Some n
IsCheckError rules Medium = ⊥
IsCheckError rules OutOfMemory = Unit {0}
