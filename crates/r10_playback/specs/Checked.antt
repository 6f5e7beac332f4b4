-- What is printed of a recording.
use Rattle.std.specs.Prelude.{◌≡◌, ℕ, List, Option}
use Rattle.std.specs.Io.KnownBytes.{Appends}
use Rattle.r10_checker.specs.Verdict.{IsVerdict}
use Rattle.r10_checker.specs.declared.check.Verdict.{Verdict}
use Rattle.r10_checker.specs.declared.check.Verdict.TheVariants.{Strict, Lenient, Faulty}
use Rattle.r10_images.specs.declared.listing.Outcome.{Outcome}
use Rattle.r10_images.specs.declared.listing.Outcome.TheVariants.{Done, Refused}
use Rattle.r10_playback.specs.Words.{verdict_line}

-- a faulty recording is refused
abbrev pub verdict_outcome : Verdict → Outcome
verdict_outcome Strict = Done
verdict_outcome (Lenient opaque) = Done
verdict_outcome (Faulty offset fault) = Refused

-- a writer was given the line of a verdict
abbrev pub PrintsVerdict : Verdict → Outcome → Option (List ℕ) → Option (List ℕ) → Type 0
PrintsVerdict verdict outcome old new = (outcome ≡ verdict_outcome verdict) × Appends old new (verdict_line verdict)

-- a writer was given the line of the verdict on these bytes
abbrev pub Checks : List ℕ → Outcome → Option (List ℕ) → Option (List ℕ) → Type 0
Checks bytes outcome old new = (verdict : Verdict) × IsVerdict bytes verdict × (outcome ≡ verdict_outcome verdict)
    × Appends old new (verdict_line verdict)
