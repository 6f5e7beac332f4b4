use Rattle.std.proofs.Common.{rules}
use Rattle.r10_packet_rules.proofs.IndexEntries.{root_stands}
use Rattle.r10_packet_rules.proofs.index.RootEntryPlainEntry.behind.Goals as goal

pub returns-clause-found : goal.returns-clause-found
returns-clause-found c =
    root_stands c.args.bytes.now c.in-Some.rest.now c.in-Some-split_u64.rest.now c.in-Some._counter c.in-Some-split_u64._offset (search rules) (search rules) (search rules) (search rules)
