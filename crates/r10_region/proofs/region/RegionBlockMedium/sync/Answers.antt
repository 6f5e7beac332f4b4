use Rattle.std.proofs.Common.{refl}
use Rattle.r10_region.specs.Line.{told_by}
use Rattle.r10_region.proofs.OneMoreOperation.{reads_still, whole_still, later, since, held, is_sure}
use Rattle.r10_region.proofs.region.RegionBlockMedium.sync.Goals as goal

pub invariant_of-self : goal.invariant_of-self
invariant_of-self c =
    let r = c.args.self.now in let new = told_by c.ask.new.self in
    record {
      reads = reads_still r.was.value.held (told_by r.line) new r.blocks.now r.reads c.ask.result c.ask.ensures.reported;
      whole = r.whole;
      each_whole = whole_still r.was.value.held (told_by r.line) new r.blocks.now r.reads c.ask.result c.ask.ensures.reported r.each_whole;
      fits = r.fits;
    }

pub returns-then-ask-clause-durable : goal.returns-then-ask-clause-durable
returns-then-ask-clause-durable c =
    let r = c.args.self.now in
    is_sure r.was.value.held (told_by r.line) (told_by c.ask.new.self) r.blocks.now r.reads c.ask.result c.ask.ensures.reported c.if-ask.true

pub returns-then-ask-clause-same : goal.returns-then-ask-clause-same
returns-then-ask-clause-same c =
    let r = c.args.self.now in let new = told_by c.ask.new.self in
    record {
      later = later r.was.value.held (told_by r.line) new r.blocks.now r.reads c.ask.result c.ask.ensures.reported;
      since = since r.was.value.held (told_by r.line) new r.blocks.now r.reads c.ask.result c.ask.ensures.reported;
      reads = refl;
      may_hold = held r.was.value.held (told_by r.line) new r.blocks.now r.reads c.ask.result c.ask.ensures.reported;
    }
