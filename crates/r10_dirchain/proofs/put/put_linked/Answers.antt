use Rattle.r10_dirchain.proofs.Putting.{unlinked_moments, linked_moments, linked_reads, linked_settled}
use Rattle.r10_dirchain.proofs.put.put_linked.Goals as goal

pub returns-in-Err-clause-moments : goal.returns-in-Err-clause-moments
returns-in-Err-clause-moments g c = unlinked_moments c.args.next.now c.args.linking.now _ _ c.put_unlinked.ensures.moments

pub returns-clause-moments : goal.returns-clause-moments
returns-clause-moments g c =
    linked_moments c.args.next.now c.args.linking.now (g.M.BlockMedium.disk c.args.medium.now) (g.M.BlockMedium.disk c.put_unlinked.new.medium) (g.M.BlockMedium.disk c.put_block.new.medium)
    c.requires.apart c.put_unlinked.ensures.moments c.in_default.ensures.put c.put_block.ensures.moments

pub returns-clause-reads : goal.returns-clause-reads
returns-clause-reads g c = linked_reads c.args.next.now c.args.linking.now _ _ _ c.requires.apart c.in_default.ensures.put c.put_block.ensures.reads

pub returns-clause-settled : goal.returns-clause-settled
returns-clause-settled g c =
    linked_settled c.put_block.result c.args.next.now c.args.linking.now (g.M.BlockMedium.disk c.args.medium.now) (g.M.BlockMedium.disk c.put_unlinked.new.medium) (g.M.BlockMedium.disk c.put_block.new.medium)
    c.requires.apart c.in_default.ensures.put c.put_block.ensures.settled
