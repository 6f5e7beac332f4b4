use Rattle.std.proofs.Common.{◌∙◌}
use Rattle.r10_file_rules.proofs.OnChannels.{last_some, last_same}
use Rattle.r10_file_rules.proofs.channels.last_with.Goals as goal

pub returns-in-Some : goal.returns-in-Some
returns-in-Some c = λ packets p kept tells. c.get.ensures.value ∙ last_some packets p c.args.facts.now _ c.in-Some.is tells

pub returns-in-None : goal.returns-in-None
returns-in-None c = λ packets p kept tells. last_same packets p c.args.facts.now _ c.in-None.is (c.last_of.ensures packets c.args.facts.now.channel kept) tells
