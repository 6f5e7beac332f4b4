use Rattle.std.proofs.Common.{refl}
use Rattle.r10_shared.proofs.Channels.{same_channel}
use Rattle.r10_shared.proofs.desk.HeldRecording.pump_place.Goals as goal

pub returns : goal.returns
returns g c = (
  c.pump.new.self,
  record {
    channel = _;
    is = λ d. same_channel _ _ c.args.place d _ c.requires c.channels.ensures;
    passed = c.pump.ensures.does.passed;
    takes = c.pump.ensures.does.takes;
    effect = c.pump.ensures.does.effect;
    gauge = c.pump.ensures.gauge;
    config = c.pump.ensures.does.config;
  },
  refl,
)
