use Rattle.r10_file_rules.proofs.OnChannels.{counts_kept, no_counts_kept}
use Rattle.r10_file_rules.proofs.channels.keeps_counts.Goals as goal

pub returns-in-Some : goal.returns-in-Some
returns-in-Some c = λ packets p kept each tells. counts_kept packets p c.args.facts.now _ c.last_of.result c.goes_on.result c.in-Some.is c.goes_on.ensures (c.last_of.ensures packets c.args.facts.now.channel kept) each tells

pub returns-in-None : goal.returns-in-None
returns-in-None c = λ packets p kept each tells. no_counts_kept packets p c.args.facts.now c.in-None.is each tells
