-- Copies into memory that a caller lends.
use Rattle.std.specs.Prelude.{List, ◌++◌, length, take, drop, min}

-- what fits of a list, and after it what was there
abbrev pub copied : {T : Type 0} → List T → List T → List T
copied from to = take (min (length from) (length to)) from ++ drop (min (length from) (length to)) to
