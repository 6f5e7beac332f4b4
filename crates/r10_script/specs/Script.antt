-- What the whole table of a script asks for.
use Rattle.std.specs.Prelude.{◌≡◌, ℕ, pos, List, [], ◌∷◌, Option, Some, codes, IsSomeAnd}
use Rattle.toml.specs.Data.{Data, Members, as_table}
use Rattle.r10_body.specs.declared.message.Kind.{Kind}
use Rattle.r10_body.specs.declared.message.Kind.TheVariants as kinds
use Rattle.r10_body.specs.declared.spec.ChannelSpec.{ChannelSpec}
use Rattle.r10_machine.specs.Config.{Config}
use Rattle.r10_machine.specs.declared.event.Event.{Event}
use Rattle.r10_script.specs.Keys.{integer_at, text_at, items_or_none_at, HasOnly}
use Rattle.r10_script.specs.Kinds.{kind_word, channel_keys}
use Rattle.r10_script.specs.Steps.{IsStepTable}

-- each of the items is a table, and asks for what stands at its place
abbrev pub EachAsks : {A : Type 0} → (Members → A → Type 0) → List Data → List A → Type 0
EachAsks Asks [] [] = Unit {0}
EachAsks Asks (d ∷ ds) (x ∷ xs) = IsSomeAnd (as_table d) (λ table. Asks table x) × EachAsks Asks ds xs
EachAsks Asks _ _ = ⊥

-- there are items, and they ask so
abbrev pub ItemsAsk : {A : Type 0} → (Members → A → Type 0) → Option (List Data) → List A → Type 0
ItemsAsk Asks items xs = IsSomeAnd items (λ ds. EachAsks Asks ds xs)

-- a discrete channel tells its number of bits, and any other has none
abbrev pub IsBits : Kind → Members → ℕ → Type 0
IsBits kinds.Discrete table bits = integer_at table (codes "bits") ≡ Some (pos bits)
IsBits kind table bits = bits ≡ 0

abbrev pub IsChannelTable : Members → ChannelSpec → Type 0
IsChannelTable table spec =
    (integer_at table (codes "id") ≡ Some (pos spec.id))
    × (text_at table (codes "kind") ≡ Some (kind_word spec.kind))
    × (integer_at table (codes "capacity") ≡ Some (pos spec.capacity))
    × (integer_at table (codes "check") ≡ Some (pos spec.check))
    × (integer_at table (codes "bytes") ≡ Some (pos spec.bytes))
    × (integer_at table (codes "number") ≡ Some (pos spec.number))
    × IsBits spec.kind table spec.bits
    × HasOnly (channel_keys spec.kind) table

abbrev pub AreScriptSettings : Members → Config → Type 0
AreScriptSettings table s =
    (integer_at table (codes "blocks") ≡ Some (pos s.blocks))
    × (integer_at table (codes "directory") ≡ Some (pos s.directory))
    × (text_at table (codes "volume") ≡ Some s.volume)
    × (integer_at table (codes "nodes") ≡ Some (pos s.nodes))
    × (integer_at table (codes "time") ≡ Some (pos s.time))
    × (integer_at table (codes "event") ≡ Some (pos s.event))
    × ItemsAsk IsChannelTable (items_or_none_at table (codes "channel")) s.channels

abbrev pub AreSteps : List ChannelSpec → Members → List Event → Type 0
AreSteps channels table events = ItemsAsk (IsStepTable channels) (items_or_none_at table (codes "step")) events

-- the keys above the tables, and those of the tables
abbrev pub script_keys : List (List ℕ)
script_keys = codes "blocks" ∷ codes "directory" ∷ codes "volume" ∷ codes "nodes" ∷ codes "time" ∷ codes "event" ∷ codes "channel"
    ∷ codes "step" ∷ []
