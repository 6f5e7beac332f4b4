use Rattle.std.proofs.Common.{arith, rules}
use Rattle.r10_packet_rules.proofs.IndexEntries.{node_low, node_stands}
use Rattle.r10_packet_rules.proofs.index.NodeEntryPlainEntry.behind.Goals as goal

pub returns-then-packet-ge-WORD_END-clause-none : goal.returns-then-packet-ge-WORD_END-clause-none
returns-then-packet-ge-WORD_END-clause-none c = λ before e rest fits is.
    let low = node_low c.args.bytes.now c.in-Some.rest.now c.in-Some-split_u32.rest.now rest c.in-Some._counter c.in-Some-split_u32.packet e (search rules) (search rules) (search rules) (search rules) fits is in
    omega (arith, c.if-packet-ge-WORD_END.true, low)

pub returns-clause-found : goal.returns-clause-found
returns-clause-found c =
    node_stands c.args.bytes.now c.in-Some.rest.now c.in-Some-split_u32.rest.now c.in-Some-split_u64.rest.now c.in-Some._counter c.in-Some-split_u32.packet c.in-Some-split_u64._offset
    (search rules) (search rules) (search rules) (search rules) (search rules) (search rules)
