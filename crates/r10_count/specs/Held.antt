-- Where the bytes of a message stand.
use Rattle.std.specs.Prelude.{ℕ, ◌≤◌, List, take}
use Rattle.r10_count.specs.declared.bytes.BytesPlace.{BytesPlace}
use Rattle.r10_count.specs.declared.bytes.BytesPlace.TheVariants.{Short, Long}

-- the bytes: the first of the places, or all of the vector
abbrev pub bytes_held : BytesPlace → List ℕ
bytes_held (Short len places) = take len places
bytes_held (Long vec) = vec.items

-- no more bytes than places
abbrev pub IsHeld : BytesPlace → Type 0
IsHeld (Short len places) = len ≤ 38
IsHeld (Long vec) = Unit {0}
