-- How many entries were read.
use Rattle.std.specs.Prelude.{ℕ, ◌+◌, ◌-◌, ◌^◌, min, List, [], ◌∷◌, length}
use Rattle.r10_shared.specs.Recorder.{Instalment}

-- how many entries instalments have
abbrev pub instalments_length : List Instalment → ℕ
instalments_length [] = 0
instalments_length (i ∷ instalments) = length i.entries + instalments_length instalments

-- up to the greatest number of 64 bits
abbrev pub entries_in : List Instalment → ℕ
entries_in instalments = min (instalments_length instalments) (2 ^ 64 - 1)
