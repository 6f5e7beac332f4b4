-- The order of what goes through a ring.
use Rattle.std.specs.Prelude.{◌≡◌, ℕ, ◌<◌, List, [], ◌∷◌, Option, Some, None, slice_get}
use Rattle.r10_count.specs.Checks.{first_broken}
use Rattle.r10_body.specs.Gaps.{IsSoundGap}
use Rattle.r10_body.specs.declared.entry.Sample.{Sample}
use Rattle.r10_machine.specs.Checks.{taking_checks}
use Rattle.r10_port.specs.declared.item.Item.{Item}
use Rattle.r10_port.specs.declared.item.Item.TheVariants.{Announce, Entry}

-- the samples among the items
abbrev pub samples : List Item → List Sample
samples [] = []
samples (Announce spec ∷ items) = samples items
samples (Entry x ∷ items) = x ∷ samples items

-- the count of the last sample, or this one
abbrev pub last_count_or : Option ℕ → List Sample → Option ℕ
last_count_or last [] = last
last_count_or last (x ∷ xs) = last_count_or (Some x.count) xs

-- what may come after items that begin so and have these samples
abbrev pub MayJoin : Option Item → List Sample → Item → Type 0
MayJoin None before (Announce spec) = Unit {0}
MayJoin None before (Entry x) = ⊥
MayJoin (Some (Announce spec)) before (Announce other) = ⊥
MayJoin (Some (Announce spec)) before (Entry x) = (0 < spec.capacity)
    × (first_broken (taking_checks spec (last_count_or None before) x.count x.message) ≡ None) × IsSoundGap x.gap
MayJoin (Some (Entry y)) before item = ⊥

-- a channel's settings come first, and then, on a channel that has any room, what passes the checks of an offer on it, with a
-- gap that tells no loss of none
abbrev pub ItemMayFollow : List Item → Item → Type 0
ItemMayFollow before item = MayJoin (slice_get before 0) (samples before) item
