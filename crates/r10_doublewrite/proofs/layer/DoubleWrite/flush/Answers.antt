use Rattle.std.proofs.Common.{ℕ, List, ap, sym, ◌∙◌}
use Rattle.r10_sector.specs.Held.{put_sectors}
use Rattle.r10_doublewrite.proofs.Shown.{batch_unchanged, put_alike}
use Rattle.r10_doublewrite.proofs.layer.DoubleWrite.flush.Goals as goal

pub returns-in_default-clause-same : goal.returns-in_default-clause-same
returns-in_default-clause-same g c =
    let s = c.args.self.now in let a = g.D.SectorDevice.plate s.device in let d = g.D.SectorDevice.plate c.commit.new.device in
    batch_unchanged a d s.firsts.items s.firsts.items c.deref.result.now s.blocks.items s.blocks.items c.deref-2.result.now s.sectors _ s.refused s.refused s.next s.number
    c.deref.ensures.value c.deref-2.ensures.value (s.guarded c.if-self.false) c.commit.ensures.gives
    (sym (put_alike g.D.SectorDevice.per s.firsts.items c.deref.result.now s.blocks.items c.deref-2.result.now d.now.image c.deref.ensures.value c.deref-2.ensures.value)
    ∙ c.commit.ensures.shows)

pub returns-clause-same : goal.returns-clause-same
returns-clause-same g c =
    let s = c.args.self.now in let a = g.D.SectorDevice.plate s.device in let d = g.D.SectorDevice.plate c.commit.new.device in
    batch_unchanged a d s.firsts.items c.clear.new.self.items c.deref.result.now s.blocks.items c.clear-2.new.self.items c.deref-2.result.now s.sectors _ s.refused s.refused s.next s.number
    c.deref.ensures.value c.deref-2.ensures.value (s.guarded c.if-self.false) c.commit.ensures.gives
    (ap (λ (l : List ℕ). put_sectors g.D.SectorDevice.per l c.clear-2.new.self.items d.now.image) c.clear.ensures.items ∙ c.in-Ok.ensures.put)
