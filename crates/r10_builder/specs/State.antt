-- A builder as a contract sees it, and what its calls do.
use Rattle.std.specs.Prelude.{◌≡◌, ℕ, ◌≤◌, List, [], ◌∷◌, ◌++◌, Option, Some, None, vec_capacity}
use Rattle.r10_body.specs.declared.entry.Sample.{Sample}
use Rattle.r10_body.specs.declared.spec.ChannelSpec.{ChannelSpec}
use Rattle.r10_builder.specs.Packing.{IsClosedPacket, IsLimited, reason}
use Rattle.r10_builder.specs.declared.closed.Closed.{Closed}
use Rattle.r10_builder.specs.declared.closed.Reason.{Reason}

-- the channel's settings, the samples of the open packet, and how many bytes the bodies of this packet and of the next may
-- have before memory is asked for
pub record BuilderState : Type 0 where
  pub spec : ChannelSpec
  pub samples : List Sample
  pub room : ℕ
  pub next_room : ℕ

-- the samples are handed out for a reason, in one packet where the settings are within their limits
abbrev pub HandsOut : BuilderState → Reason → Closed → List Sample → BuilderState → Type 0
HandsOut old why closed left new =
    (closed.reason ≡ why) × (IsLimited old.spec → IsClosedPacket old.spec old.samples closed) × (new.samples ≡ left)

-- a push: where nothing closes the packet, the sample joins the others; else they are handed out for the first reason, and the
-- sample stands alone
abbrev pub Pushed : BuilderState → Sample → Option Closed → BuilderState → Type 0
Pushed old s None new = (reason old.spec old.samples s ≡ None) × (new.samples ≡ old.samples ++ s ∷ [])
Pushed old s (Some closed) new = (reason old.spec old.samples s ≡ Some closed.reason)
    × HandsOut old closed.reason closed (s ∷ []) new

-- there is room for two greatest packets, so that no push asks for memory
pub record HasRoomForTwo (b : BuilderState) : Type 0 where
  pub room : b.spec.bytes ≤ b.room
  pub next_room : b.spec.bytes ≤ b.next_room

-- and there is again, once the room of what was handed out is given back
pub record IsReadyWith (closed : Closed) (b : BuilderState) : Type 0 where
  pub room : b.spec.bytes ≤ b.room
  pub given : b.spec.bytes ≤ vec_capacity closed.body
