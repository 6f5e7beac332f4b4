-- The verdict on a file.
use Rattle.std.specs.Prelude.{ℕ, List}
use Rattle.r10_body.specs.Files.{IsStrict}
use Rattle.r10_body.specs.Foreign.{IsForeignFile}
use Rattle.r10_body.specs.Faults.{IsFaulty}
use Rattle.r10_checker.specs.declared.check.Verdict.{Verdict}
use Rattle.r10_checker.specs.declared.check.Verdict.TheVariants.{Strict, Lenient, Faulty}

-- strict; or one of any recorder's files that is not strict; or at fault
abbrev pub IsVerdict : List ℕ → Verdict → Type 0
IsVerdict bytes Strict = IsStrict bytes
IsVerdict bytes (Lenient opaque) = (IsStrict bytes → ⊥) × IsForeignFile bytes opaque
IsVerdict bytes (Faulty offset fault) = IsFaulty bytes offset fault
