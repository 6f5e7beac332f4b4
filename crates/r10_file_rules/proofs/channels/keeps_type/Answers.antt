use Rattle.std.proofs.Common.{arith, subst}
use Rattle.std.specs.Prelude.{Option}
use Rattle.r10_file_rules.specs.Channels.{IsKeptOfChannel}
use Rattle.r10_file_rules.specs.declared.channels.ChannelTrack.{ChannelTrack}
use Rattle.r10_file_rules.proofs.OnChannels.{type_kept, no_type_kept}
use Rattle.r10_file_rules.proofs.channels.keeps_type.Goals as goal

pub returns-else-facts-eq0 : goal.returns-else-facts-eq0
returns-else-facts-eq0 c = λ packets p kept tells. type_kept packets p c.args.facts.now _ (omega (arith, c.if-facts-eq0.false)) (subst (λ (t : Option ChannelTrack). IsKeptOfChannel packets c.args.facts.now.channel t) c.in-Some.is kept) tells

pub returns-in-None : goal.returns-in-None
returns-in-None c = λ packets p kept tells. no_type_kept packets p c.args.facts.now (subst (λ (t : Option ChannelTrack). IsKeptOfChannel packets c.args.facts.now.channel t) c.in-None.is kept) tells
