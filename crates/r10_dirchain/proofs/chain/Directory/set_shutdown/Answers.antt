use Rattle.r10_dirchain.proofs.Turning.{either_shutdown}
use Rattle.r10_dirchain.proofs.chain.Directory.set_shutdown.Goals as goal

pub returns-clause-either : goal.returns-clause-either
returns-clause-either g c = λ one other here.
    either_shutdown c.args.self.now one other c.args.shutdown c.block-block.result _ _ _ c.rewrite.result c.block-block.ensures c.rewrite.ensures.turns here
