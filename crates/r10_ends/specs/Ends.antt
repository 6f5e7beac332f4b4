-- What a call makes of the ends that a caller of another language keeps.
use Rattle.std.specs.Prelude.{◌≡◌, ◌⊎◌, ℕ, [], true, Option, None, Some}
use Rattle.r10_body.specs.declared.spec.ChannelSpec.{ChannelSpec}
use Rattle.r10_machine.specs.Machine.{fresh_lane}
use Rattle.r10_port.specs.Ends.{Sending}
use Rattle.r10_ends.specs.Owning.{Between}
use Rattle.r10_ends.specs.declared.carrier.Carrier.{Carrier}
use Rattle.r10_ends.specs.declared.outlet_end.OutletEnd.{OutletEnd}
use Rattle.r10_ends.specs.declared.port_end.PortEnd.{PortEnd}

-- it is open then, and between what the port was and what it is it is so
abbrev pub PortGoes : PortEnd → PortEnd → (Sending → Sending → Type 0) → Type 0
PortGoes before after is = (after.opened ≡ true) × Between before.handle.held after.handle.held is

-- likewise of the receiving end
abbrev pub OutletGoes : OutletEnd → OutletEnd → (Carrier → Carrier → Type 0) → Type 0
OutletGoes before after is = (after.opened ≡ true) × Between before.handle.held after.handle.held is

-- one of them is open
abbrev pub IsOpenOne : PortEnd → OutletEnd → Type 0
IsOpenOne port outlet = (port.opened ≡ true) ⊎ (outlet.opened ≡ true)

-- two ends of one ring for a channel, with room for its capacity, through which nothing went
pub record AreFresh (spec : ChannelSpec) (place : ℕ) (port : Sending) (outlet : Carrier) : Type 0 where
  pub lane : port.lane ≡ fresh_lane spec
  pub free : port.free ≡ spec.capacity
  pub other : outlet.outlet.spec ≡ spec
  pub none : outlet.outlet.received ≡ []
  pub ring : outlet.outlet.ring ≡ port.ring
  pub place_is : outlet.place ≡ place
  pub hand : outlet.hand ≡ None

abbrev pub HoldEnds : ChannelSpec → ℕ → Option Sending → Option Carrier → Type 0
HoldEnds spec place (Some port) (Some outlet) = AreFresh spec place port outlet
HoldEnds spec place port outlet = ⊥

-- both are open, and hold the ends of a lane for the channel
pub record AreEndsOpened (spec : ChannelSpec) (place : ℕ) (port : PortEnd) (outlet : OutletEnd) : Type 0 where
  pub port_open : port.opened ≡ true
  pub outlet_open : outlet.opened ≡ true
  pub ends : HoldEnds spec place port.handle.held outlet.handle.held
