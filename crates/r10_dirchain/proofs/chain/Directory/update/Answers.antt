use Rattle.r10_dirchain.proofs.Directories.{rooms_last}
use Rattle.r10_dirchain.proofs.chain.Directory.update.Goals as goal

pub rewrite-requires-clause-rooms : goal.rewrite-requires-clause-rooms
rewrite-requires-clause-rooms g c =
    rooms_last _ c.args.self.now c.last_listing-i.result c.block-block.result c.pop.new.self c.push.new.self c.args.entry c.requires.stands c.last_listing-i.ensures.within
    c.block-block.ensures c.pop.ensures c.push.ensures c.requires.room
