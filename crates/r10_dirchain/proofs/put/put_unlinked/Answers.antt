use Rattle.r10_medium.proofs.PowerLoss.{write_but}
use Rattle.r10_dirchain.proofs.put.put_unlinked.Goals as goal

pub returns-clause-moments : goal.returns-clause-moments
returns-clause-moments g c =
    write_but c.args.link.now.number c.encode.result (g.M.BlockMedium.disk c.args.medium.now) (g.M.BlockMedium.disk c.write.new.self) c.requires.within c.write.ensures.wrote
