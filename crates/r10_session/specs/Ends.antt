-- New lanes between threads, a lane for each channel.
use Rattle.std.specs.Prelude.{◌≡◌, ◌==◌, ℕ, List, [], ◌∷◌, Option, Some, None, slice_index_or}
use Rattle.std.specs.List.{position, remove}
use Rattle.r10_body.specs.declared.spec.ChannelSpec.{ChannelSpec}
use Rattle.r10_machine.specs.Machine.{fresh_lane}
use Rattle.r10_port.specs.Ends.{Receiving, Sending}
use Rattle.r10_session.specs.declared.ends.Sender.{Sender}

-- a channel's lane: its two ends, of one ring, through which nothing has gone
pub record IsLane (spec : ChannelSpec) (sender : Sender) (outlet : Receiving) : Type 0 where
  pub channel_is : sender.channel ≡ spec.id
  pub lane_is : sender.port.lane ≡ fresh_lane spec
  pub spec_is : outlet.spec ≡ spec
  pub received_is : outlet.received ≡ []
  pub ring_is : outlet.ring ≡ sender.port.ring

-- each channel has its lane, in order
abbrev pub ArePaired : List ChannelSpec → List Sender → List Receiving → Type 0
ArePaired [] [] [] = Unit {0}
ArePaired (spec ∷ specs) (sender ∷ senders) (outlet ∷ outlets) = IsLane spec sender outlet × ArePaired specs senders outlets
ArePaired specs senders outlets = ⊥

-- the place of the first that is a channel's
abbrev pub sender_place : ℕ → List Sender → Option ℕ
sender_place channel senders = position (λ (sender : Sender). sender.channel == channel) senders

-- the first that is the channel's was taken from among these, which left the others
pub record TakesSender (old : List Sender) (channel : ℕ) (port : Sending) (new : List Sender) : Type 0 where
  pub place : ℕ
  pub found : sender_place channel old ≡ Some place
  pub port_is : (d : Sender) → (slice_index_or old place d).port ≡ port
  pub left : new ≡ remove old place

-- or there was none, and all are left
abbrev pub Takes : List Sender → ℕ → Option Sending → List Sender → Type 0
Takes old channel (Some port) new = TakesSender old channel port new
Takes old channel None new = (sender_place channel old ≡ None) × (new ≡ old)
