use Rattle.r10_dirchain.proofs.Turning.{extended_by}
use Rattle.r10_dirchain.proofs.chain.Directory.add_block.Goals as goal

pub returns-in-Err-clause-turns : goal.returns-in-Err-clause-turns
returns-in-Err-clause-turns g c =
    extended_by c.args.self.now c.args.entry c.next_block-next.result c.linking-linking.result _ _ _ c.requires.stands c.requires.next c.next_block-next.ensures c.linking-linking.ensures
    (c.put_linked.ensures.moments, c.put_linked.ensures.reads, tt)

pub returns-clause-turns : goal.returns-clause-turns
returns-clause-turns g c =
    extended_by c.args.self.now c.args.entry c.next_block-next.result c.linking-linking.result _ _ _ c.requires.stands c.requires.next c.next_block-next.ensures c.linking-linking.ensures
    (c.put_linked.ensures.moments, c.put_linked.ensures.reads, c.in_default.ensures.settled)
