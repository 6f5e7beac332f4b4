-- What opening a lane comes to.
use Rattle.std.proofs.Common.{◌≡◌, ℕ, List, Some, sym, ap, ◌∙◌}
use Rattle.std.specs.Prelude.{slice_get}
use Rattle.r10_body.specs.declared.spec.ChannelSpec.{ChannelSpec}
use Rattle.r10_machine.specs.Config.{Config}
use Rattle.r10_calls.specs.Opening.{IsSettings}
use Rattle.r10_ends.specs.Ends.{AreEndsOpened}
use Rattle.r10_ends.specs.declared.outlet_end.OutletEnd.{OutletEnd}
use Rattle.r10_ends.specs.declared.port_end.PortEnd.{PortEnd}
use Rattle.r10_carrier.specs.Opening.{OpensLane, channel_place}

-- the channel and its place were found among those of the script
pub opens : (text : List ℕ) (channel : ℕ) (settings : Config) (cs ds : List ChannelSpec) (place : ℕ) (spec : ChannelSpec) (port : PortEnd) (outlet : OutletEnd)
    → IsSettings text settings → cs ≡ settings.channels → ds ≡ settings.channels → Some place ≡ channel_place cs channel → slice_get ds place ≡ Some spec
    → AreEndsOpened spec place port outlet → OpensLane text channel port outlet
opens text channel settings cs ds place spec port outlet script one other at found ends = record {
  settings = settings;
  is_script = script;
  place = place;
  place_is = ap (λ (xs : List ChannelSpec). channel_place xs channel) (sym one) ∙ sym at;
  spec = spec;
  spec_is = ap (λ (xs : List ChannelSpec). slice_get xs place) (sym other) ∙ found;
  ends = ends;
}
