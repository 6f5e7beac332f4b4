use Rattle.r10_shared.proofs.Settles.{failed_out}
use Rattle.r10_shared.proofs.failing.end_failed_held.Goals as goal

pub returns-in-Ok-clause-settled : goal.returns-in-Ok-clause-settled
returns-in-Ok-clause-settled g c =
    failed_out g.M.BlockMedium.disk g.N.Rings.rings c.args.held.recorder (λ feed. feed.line) (λ feed. feed.tally) _ c.look.ensures.lanes _ c.in-Ok.ensures.moved
