-- The rings of new lanes.
use Rattle.std.specs.Prelude.{◌≡◌, ◌==◌, ℕ, true, List, map, Some, IsSome}
use Rattle.std.specs.List.{AllByRecursion, find, list_any}
use Rattle.r10_body.specs.declared.spec.ChannelSpec.{ChannelSpec}
use Rattle.r10_session.specs.declared.ends.Sender.{Sender}
use Rattle.r10_shared.specs.Recorder.{ChannelRing, ring_for}
use Rattle.r10_machine.specs.Machine.{fresh_lane}
use Rattle.r10_port.specs.Ends.{Receiving, Sending}
use Rattle.r10_script.specs.declared.session.FeedTable.{FeedTable}

-- the ring of each lane, with its channel
abbrev pub rings_of : List Receiving → List ChannelRing
rings_of outlets = map (λ (outlet : Receiving). record { channel = outlet.spec.id; ring = outlet.ring }) outlets

-- the ring of a sending end is the one that is named for its channel
abbrev pub IsRingNamed : List ChannelRing → Sender → Type 0
IsRingNamed rings sender = ring_for sender.channel rings ≡ Some sender.port.ring

-- one of them is the channel's
abbrev pub HasSender : List Sender → ℕ → Type 0
HasSender senders channel = list_any (λ (sender : Sender). sender.channel == channel) senders ≡ true

-- the sending end of a lane through which nothing has gone, of a channel as these settings have it
pub record IsUnused (specs : List ChannelSpec) (channel : ℕ) (port : Sending) : Type 0 where
  pub spec : ChannelSpec
  pub there : find (λ (c : ChannelSpec). c.id == channel) specs ≡ Some spec
  pub lane_is : port.lane ≡ fresh_lane spec

abbrev pub IsFresh : List ChannelSpec → Sender → Type 0
IsFresh specs sender = IsUnused specs sender.channel sender.port

-- the channel of each table is one of these
abbrev pub HaveChannels : List ChannelSpec → List FeedTable → Type 0
HaveChannels specs tables = AllByRecursion (λ (table : FeedTable). IsSome (find (λ (c : ChannelSpec). c.id == table.channel) specs))
    tables
