use Rattle.r10_dirchain.proofs.Turning.{erased}
use Rattle.r10_dirchain.proofs.chain.Directory.erase.Goals as goal

pub returns-in-Err-clause-turns : goal.returns-in-Err-clause-turns
returns-in-Err-clause-turns g c =
    erased c.args.self.now c.block-block.result c.new-block.result _ _ _ c.requires c.block-block.ensures c.new-block.ensures
    c.put_block.ensures.moments c.put_block.ensures.reads tt

pub returns-clause-turns : goal.returns-clause-turns
returns-clause-turns g c =
    erased c.args.self.now c.block-block.result c.new-block.result _ _ _ c.requires c.block-block.ensures c.new-block.ensures
    c.put_block.ensures.moments c.put_block.ensures.reads c.in_default.ensures.settled
