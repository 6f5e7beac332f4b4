-- A lane between threads for a channel of a script.
use Rattle.std.specs.Prelude.{◌≡◌, ℕ, ◌==◌, List, None, Option, Some, slice_get}
use Rattle.std.specs.List.{position}
use Rattle.r10_body.specs.declared.spec.ChannelSpec.{ChannelSpec}
use Rattle.r10_machine.specs.Config.{Config}
use Rattle.r10_calls.specs.Opening.{IsSettings}
use Rattle.r10_ends.specs.Ends.{AreEndsOpened}
use Rattle.r10_ends.specs.declared.outlet_end.OutletEnd.{OutletEnd}
use Rattle.r10_ends.specs.declared.port_end.PortEnd.{PortEnd}

-- the place of a channel
abbrev pub channel_place : List ChannelSpec → ℕ → Option ℕ
channel_place channels id = position (λ (c : ChannelSpec). c.id == id) channels

-- the text is a script without this channel
abbrev pub LacksChannel : List ℕ → ℕ → Type 0
LacksChannel text channel = (s : Config) × IsSettings text s × (channel_place s.channels channel ≡ None)

-- Both ends are open, and hold the ends of a lane for a channel of the script, as the script sets it, at its place among the
-- script's channels.
pub record OpensLane (text : List ℕ) (channel : ℕ) (port : PortEnd) (outlet : OutletEnd) : Type 0 where
  pub settings : Config
  pub is_script : IsSettings text settings
  pub place : ℕ
  pub place_is : channel_place settings.channels channel ≡ Some place
  pub spec : ChannelSpec
  pub spec_is : slice_get settings.channels place ≡ Some spec
  pub ends : AreEndsOpened spec place port outlet
