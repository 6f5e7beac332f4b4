-- What was lost before a message of a channel.
use Rattle.std.specs.Prelude.{ℕ, ◌^◌, ◌<◌, Bool, true, false, cond, ◌==◌}
use Rattle.r10_body.specs.declared.gap.Gap.{Gap}
use Rattle.r10_body.specs.declared.gap.Gap.TheVariants.{Whole, Lost, Unknown}

-- the gap after so many refusals
abbrev pub gap_after : ℕ → Gap
gap_after missed = cond (missed == 0) Whole (Lost missed)

abbrev pub is_gap : Gap → Bool
is_gap Whole = false
is_gap (Lost n) = true
is_gap Unknown = true

-- what a packet's flag alone tells
abbrev pub gap_of_flag : Bool → Gap
gap_of_flag false = Whole
gap_of_flag true = Unknown

-- the number that is reported; 0 where none is
abbrev pub told_lost : Gap → ℕ
told_lost Whole = 0
told_lost (Lost n) = n
told_lost Unknown = 0

-- a number that is reported is at least 1, and has 64 bits
abbrev pub IsSoundGap : Gap → Type 0
IsSoundGap Whole = Unit {0}
IsSoundGap (Lost n) = (0 < n) × (n < 2 ^ 64)
IsSoundGap Unknown = Unit {0}
