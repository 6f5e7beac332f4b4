use Rattle.r10_region.specs.Line.{told_by}
use Rattle.r10_region.proofs.OneMoreOperation.{reads_put, whole_put, fits_still, later_put, since_put, may_put, held_put}
use Rattle.r10_region.proofs.region.RegionBlockMedium.write.Goals as goal

pub invariant_of-self-then-tell_write : goal.invariant_of-self-then-tell_write
invariant_of-self-then-tell_write c =
    let r = c.args.self.now in let tells = c.tell_write in let new = told_by tells.new.line in let start = r.was.value.held in
    record {
      reads = reads_put start (told_by r.line) new r.blocks.now tells.new.blocks r.reads tells.result c.args.n c.args.block.now tells.ensures.reported tells.ensures.put;
      whole = r.whole;
      each_whole = whole_put start (told_by r.line) new r.blocks.now tells.new.blocks r.reads tells.result c.args.n c.args.block.now tells.ensures.reported tells.ensures.put
          tells.ensures.whole r.each_whole;
      fits = fits_still start (told_by r.line) new r.blocks.now tells.new.blocks r.reads tells.result c.args.n c.args.block.now tells.ensures.reported tells.ensures.put r.fits;
    }

pub returns-then-tell_write-clause-wrote : goal.returns-then-tell_write-clause-wrote
returns-then-tell_write-clause-wrote c =
    let r = c.args.self.now in let tells = c.tell_write in let new = told_by tells.new.line in let start = r.was.value.held in
    record {
      later = later_put start (told_by r.line) new r.blocks.now tells.new.blocks r.reads tells.result c.args.n c.args.block.now tells.ensures.reported tells.ensures.put;
      since = since_put start (told_by r.line) new r.blocks.now tells.new.blocks r.reads tells.result c.args.n c.args.block.now tells.ensures.reported tells.ensures.put;
      reads = may_put start (told_by r.line) new r.blocks.now tells.new.blocks r.reads tells.result c.args.n c.args.block.now tells.ensures.reported tells.ensures.put;
      may_hold = held_put start (told_by r.line) new r.blocks.now tells.new.blocks r.reads tells.result c.args.n c.args.block.now tells.ensures.reported tells.ensures.put;
    }
