use Rattle.r10_packet_rules.proofs.Tallies.{facts_told}
use Rattle.r10_packet_rules.proofs.packet_facts.facts_of.Goals as goal

pub returns : goal.returns
returns c = λ content kinds sums type size. facts_told c.args.header.now c.args.kind c.args.tally content kinds sums type size
