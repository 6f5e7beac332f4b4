use Rattle.std.proofs.Common.{◌∷◌, [], ◌++◌, length, drop, ap, refl, arith, ◌∙◌}
use Rattle.r10_medium.specs.PowerLoss.{put_blocks}
use Rattle.r10_sector.specs.Held.{put_sectors}
use Rattle.std.proofs.lemmas.List.{length-drop}
use Rattle.std.proofs.Common.{length-take-le}
use Rattle.r10_sector.proofs.Placing.{length_put}
use Rattle.r10_doublewrite.proofs.Lasting.{put_push, put_back}
use Rattle.r10_doublewrite.proofs.Sectors.{sectors_push}
use Rattle.r10_doublewrite.proofs.Shown.{put_alike, stays_itself, unchanged_stays}
use Rattle.r10_doublewrite.proofs.layer.DoubleWrite.add.Goals as goal

pub invariant_of-self-clause-sectors : goal.invariant_of-self-clause-sectors
invariant_of-self-clause-sectors g c =
    let per = g.D.SectorDevice.per in let s = c.args.self.now in let a = g.D.SectorDevice.plate s.device in
    let done = c.push_sector.ensures.done c.if-push_sector.true in
    let shown = put_sectors per s.firsts.items s.blocks.items a.now.image in
    sectors_push per (length a.now.image) s.firsts.items c.push_sector.new.firsts.items s.blocks.items c.push_sector.new.blocks.items c.args.sector.items c.args.first done.0 done.1
    s.sectors c.requires.within c.requires.aligned
    (ap length c.requires.sector ∙ length-take-le per (drop c.args.first shown) (omega (arith, c.requires.within, length-drop c.args.first shown, length_put per (length a.now.image) s.firsts.items s.blocks.items a.now.image s.sectors.size s.sectors.within refl)))
    c.requires.whole

pub returns-then-push_sector-clause-same : goal.returns-then-push_sector-clause-same
returns-then-push_sector-clause-same g c =
    let per = g.D.SectorDevice.per in let s = c.args.self.now in let a = g.D.SectorDevice.plate s.device in
    let done = c.push_sector.ensures.done c.if-push_sector.true in let first = c.args.first in let xs = c.args.sector.items in
    let shown = put_sectors per s.firsts.items s.blocks.items a.now.image in
    unchanged_stays a a s.firsts.items c.push_sector.new.firsts.items s.blocks.items c.push_sector.new.blocks.items s.sectors _ s.refused s.refused (stays_itself a)
    (put_alike per (s.firsts.items ++ first ∷ []) c.push_sector.new.firsts.items (s.blocks.items ++ xs) c.push_sector.new.blocks.items a.now.image done.0 done.1
    ∙ put_push per (length a.now.image) s.firsts.items s.blocks.items a.now.image first xs s.sectors.size
    (ap length c.requires.sector ∙ length-take-le per (drop first shown) (omega (arith, c.requires.within, length-drop first shown, length_put per (length a.now.image) s.firsts.items s.blocks.items a.now.image s.sectors.size s.sectors.within refl)))
    ∙ ap (put_blocks shown first) c.requires.sector
    ∙ put_back per (length a.now.image) shown first (omega (arith, c.requires.within, length_put per (length a.now.image) s.firsts.items s.blocks.items a.now.image s.sectors.size s.sectors.within refl)))
