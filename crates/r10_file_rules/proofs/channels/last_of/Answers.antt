use Rattle.std.proofs.Common.{subst}
use Rattle.std.specs.Prelude.{Option}
use Rattle.r10_file_rules.specs.Channels.{IsKeptOfChannel}
use Rattle.r10_file_rules.specs.declared.channels.ChannelTrack.{ChannelTrack}
use Rattle.r10_file_rules.proofs.OnChannels.{last_none}
use Rattle.r10_file_rules.proofs.channels.last_of.Goals as goal

pub returns-in-None : goal.returns-in-None
returns-in-None c = λ packets channel kept. last_none packets channel (subst (λ (t : Option ChannelTrack). IsKeptOfChannel packets channel t) c.in-None.is kept)
