use Rattle.std.proofs.Common.{List, [], ◌∷◌, ◌++◌, take, ap, ◌∙◌, arith}
use Rattle.r10_machine.specs.declared.reply.ChannelStatus.{ChannelStatus}
use Rattle.r10_control.specs.RecorderStatus.{channels_in}
use Rattle.r10_control.proofs.Statuses.{one_channel}
use Rattle.r10_control.proofs.status.channels_in.Goals as goal

pub loop-place-preserved : goal.loop-place-preserved
loop-place-preserved c =
    c.in_ok-push.ensures.items
    ∙ ap (λ (cs : List ChannelStatus). cs ++ c.channel_in.result ∷ []) c.loop-place.invariant
    ∙ ap (λ (x : ChannelStatus). channels_in c.args.mode (take c.loop-place.place c.args.lanes.now) (take c.loop-place.place c.args.erased.now) ++ x ∷ []) c.channel_in.ensures
    ∙ one_channel c.args.mode c.args.lanes.now c.args.erased.now c.loop-place.place c.index-lanes-place.result c.index-lanes-place.is (omega arith) c.requires
