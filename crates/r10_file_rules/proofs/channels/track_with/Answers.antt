use Rattle.std.proofs.Common.{refl}
use Rattle.r10_file_rules.proofs.OnChannels.{kept_more}
use Rattle.r10_file_rules.proofs.channels.track_with.Goals as goal

pub returns : goal.returns
returns c = λ packets p kept tells keeps.
    kept_more packets p c.args.facts.now _ c.next_of.result (c.next_of.ensures packets c.args.facts.now.channel kept) keeps tells refl refl (c.last_with.ensures packets p kept tells)
