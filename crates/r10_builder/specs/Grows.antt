-- What packets and builders say together, and how that grows.
use Rattle.std.specs.Prelude.{◌≡◌, ℕ, Bool, List, [], ◌∷◌, ◌++◌, length, map, nat_lt}
use Rattle.std.specs.List.{AllByRecursion, flat_map}
use Rattle.r10_body.specs.Files.{on_channel}
use Rattle.r10_body.specs.Packets.{Packet, file_entries}
use Rattle.r10_body.specs.declared.entry.Entry.{Entry}
use Rattle.r10_builder.specs.Packing.{entry_on}
use Rattle.r10_builder.specs.State.{BuilderState}

-- what a builder holds, as entries of its channel
abbrev pub held : BuilderState → List Entry
held b = map (entry_on b.spec.id) b.samples

abbrev pub all_held : List BuilderState → List Entry
all_held builders = flat_map held builders

-- the entries that were taken in: those of packets, and then those of builders
abbrev pub taken_in : List Packet → List BuilderState → List Entry
taken_in packets builders = file_entries packets ++ all_held builders

-- on each channel there is what was there before, and then these
abbrev pub Grows : List Packet → List BuilderState → List Entry → List Packet → List BuilderState → Type 0
Grows packets builders more packets' builders' =
    (channel : ℕ) → on_channel channel (taken_in packets' builders') ≡ on_channel channel (taken_in packets builders)
    ++ on_channel channel more

-- no two builders are of one channel
abbrev pub BuildersAreApart : List BuilderState → Type 0
BuildersAreApart [] = Unit {0}
BuildersAreApart (b ∷ builders) = AllByRecursion (λ (c : BuilderState). c.spec.id ≡ b.spec.id → ⊥) builders
    × BuildersAreApart builders

-- none is of this channel
abbrev pub HasNoneOf : ℕ → List BuilderState → Type 0
HasNoneOf channel builders = AllByRecursion (λ (b : BuilderState). b.spec.id ≡ channel → ⊥) builders

abbrev pub is_open_builder : BuilderState → Bool
is_open_builder b = nat_lt 0 (length b.samples)
