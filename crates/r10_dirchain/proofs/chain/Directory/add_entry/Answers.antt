use Rattle.r10_dirchain.proofs.Directories.{rooms_more}
use Rattle.r10_dirchain.proofs.chain.Directory.add_entry.Goals as goal

pub rewrite-requires-clause-rooms : goal.rewrite-requires-clause-rooms
rewrite-requires-clause-rooms g c =
    rooms_more _ c.args.self.now c.last-last.result c.block-block.result c.push.new.self c.args.entry c.requires.stands c.last-last.ensures.within c.block-block.ensures c.push.ensures c.requires.room
