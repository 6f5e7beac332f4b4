use Rattle.r10_file_rules.proofs.OnChannels.{sequence_kept}
use Rattle.r10_file_rules.proofs.channels.keeps_sequence.Goals as goal

pub returns : goal.returns
returns c = λ packets p kept tells. sequence_kept packets p c.args.facts.now c.next_of.result (c.next_of.ensures packets c.args.facts.now.channel kept) tells
