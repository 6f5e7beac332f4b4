-- What the whole table of a session script asks for.
use Rattle.std.specs.Prelude.{◌≡◌, ◌≤◌, ◌==◌, ℕ, pos, Bool, true, false, List, [], ◌∷◌, ◌++◌, Some, map, count_by, codes}
use Rattle.std.specs.List.{find}
use Rattle.toml.specs.Data.{Members}
use Rattle.r10_body.specs.declared.entry.Timed.{Timed}
use Rattle.r10_body.specs.declared.message.Kind.{Kind}
use Rattle.r10_body.specs.declared.spec.ChannelSpec.{ChannelSpec}
use Rattle.r10_machine.specs.declared.event.Event.{Event}
use Rattle.r10_machine.specs.declared.event.Event.TheVariants as events
use Rattle.r10_script.specs.Keys.{integer_at, integers_at, items_at, items_or_none_at, HasOnly}
use Rattle.r10_script.specs.Kinds.{item_keys}
use Rattle.r10_script.specs.Offers.{AreValues}
use Rattle.r10_script.specs.Script.{ItemsAsk, script_keys}
use Rattle.r10_script.specs.Steps.{IsStepTable}
use Rattle.r10_script.specs.declared.session.FeedItem.{FeedItem}
use Rattle.r10_script.specs.declared.session.FeedItem.TheVariants as items
use Rattle.r10_script.specs.declared.session.FeedTable.{FeedTable}
use Rattle.r10_script.specs.declared.session.ReaderTable.{ReaderTable}

-- a call that an order can be
abbrev pub is_order : Event → Bool
is_order events.Mount = true
is_order events.Dismount = true
is_order (events.Tick count parts) = true
is_order (events.Start name setup) = true
is_order (events.Event number count) = true
is_order events.Commit = true
is_order events.Stop = true
is_order events.Seal = true
is_order events.Erase = true
is_order event = false

-- a step that is such a call
abbrev pub IsOrder : List ChannelSpec → Members → Event → Type 0
IsOrder channels table event = IsStepTable channels table event × (is_order event ≡ true)

abbrev pub AreOrders : List ChannelSpec → Members → List ℕ → List Event → Type 0
AreOrders channels table key events = ItemsAsk (IsOrder channels) (items_or_none_at table key) events

-- a count, and the keys of a message of the channel's kind, with no other key
abbrev pub IsTimed : Kind → Members → Timed → Type 0
IsTimed kind table item = (integer_at table (codes "count") ≡ Some (pos item.count)) × HasOnly (item_keys kind) table
    × AreValues kind table item.message

-- a message so, or how many were lost, with no other key
abbrev pub IsItem : Kind → Members → FeedItem → Type 0
IsItem kind table (items.Message item) = IsTimed kind table item
IsItem kind table (items.Lost lost) = (integer_at table (codes "lost") ≡ Some (pos lost)) × HasOnly (codes "lost" ∷ []) table

-- the items for a channel of the settings
abbrev pub IsFeed : List ChannelSpec → Members → FeedTable → Type 0
IsFeed channels table feed =
    (integer_at table (codes "channel") ≡ Some (pos feed.channel))
    × HasOnly (codes "channel" ∷ codes "items" ∷ []) table
    × ((spec : ChannelSpec) × (find (λ spec. spec.id == feed.channel) channels ≡ Some spec)
    × ItemsAsk (IsItem spec.kind) (items_at table (codes "items")) feed.items)

-- a file, and what of it is read
abbrev pub IsReader : Members → ReaderTable → Type 0
IsReader table reader =
    (integer_at table (codes "file") ≡ Some (pos reader.file))
    × (integers_at table (codes "channels") ≡ Some (map (λ n. Some (pos n)) reader.channels))
    × (integer_at table (codes "from") ≡ Some (pos reader.from))
    × (integer_at table (codes "to") ≡ Some (pos reader.to))
    × HasOnly (codes "file" ∷ codes "channels" ∷ codes "from" ∷ codes "to" ∷ []) table

-- no two feeds of one channel
abbrev pub AreApart : List FeedTable → Type 0
AreApart feeds = (channel : ℕ) → count_by (λ (feed : FeedTable). feed.channel == channel) feeds ≤ 1

-- the keys above the tables, and those of the tables
abbrev pub session_keys : List (List ℕ)
session_keys = script_keys ++ codes "feed" ∷ codes "order" ∷ codes "reader" ∷ []
