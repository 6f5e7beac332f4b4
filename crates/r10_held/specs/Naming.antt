-- Which ring is whose, and which gauge is the lock's.
use Rattle.std.specs.Prelude.{◌≡◌, ℕ, ◌==◌, cond, List, [], ◌∷◌, Option, Some, None}
use Rattle.std.specs.List.{AllByRecursion}
use Rattle.atomic_table.specs.Seated.{TableId}
use Rattle.r10_port.specs.Ends.{Receiving, Ring}

-- a channel's ring
pub record ChannelRing : Type 0 where
  pub channel : ℕ
  pub ring : Ring

-- the ring of the first with this channel
abbrev pub ring_for : ℕ → List ChannelRing → Option Ring
ring_for channel [] = None
ring_for channel (r ∷ rings) = cond (r.channel == channel) (Some r.ring) (ring_for channel rings)

-- each of these lanes is that of the ring which is named for its channel
abbrev pub AreNamed : List ChannelRing → List Receiving → Type 0
AreNamed rings lanes = AllByRecursion (λ (lane : Receiving). ring_for lane.spec.id rings ≡ Some lane.ring) lanes

-- the gauge of no cabinet
abbrev pub no_gauge : TableId
no_gauge = record { words = 0; slots = 0; views_name = 0; atom = 0; block = 0; offset = 0; slot_names = [] }
