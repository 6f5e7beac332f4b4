-- Recovery, by which of the slots is the newest.
use Rattle.std.specs.Prelude.{ℕ, ◌<◌, ◌≤◌, List, [], Option, None, Some}
use Rattle.r10_sector.specs.Held.{Held, Slot, number_of}
use Rattle.r10_sector.specs.declared.side.Side.{Side}
use Rattle.r10_sector.specs.declared.side.Side.TheVariants.{One, Two}

-- the sectors in a slot
abbrev pub firsts_in : Option Slot → List ℕ
firsts_in None = []
firsts_in (Some s) = s.firsts

-- this slot is put in place last: it has the higher number, or is the first of two with one number
abbrev pub IsNewest : Side → Held → Type 0
IsNewest One h = number_of h.two ≤ number_of h.one
IsNewest Two h = number_of h.one < number_of h.two
