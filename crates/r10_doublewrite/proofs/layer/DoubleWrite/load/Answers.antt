use Rattle.std.proofs.Common.{length, ap, refl, arith}
use Rattle.r10_medium.proofs.PowerLoss.{unchanged_twice}
use Rattle.r10_sector.proofs.Placing.{length_put}
use Rattle.r10_doublewrite.specs.LayerDisk.{layer_disk}
use Rattle.r10_doublewrite.proofs.Sectors.{first_in, first_even}
use Rattle.r10_doublewrite.proofs.Shown.{image_stays, shown_stays, unchanged_stays}
use Rattle.r10_doublewrite.proofs.layer.DoubleWrite.load.Goals as goal

pub read_sector-requires-clause-within : goal.read_sector-requires-clause-within
read_sector-requires-clause-within g c =
    let per = g.D.SectorDevice.per in let s = c.args.self.now in let a = g.D.SectorDevice.plate s.device in
    first_in c.sector_blocks.result per (length a.now.image) c.args.n c.sector_blocks.ensures a.some a.aligned (omega (arith, c.requires.within, length_put per (length a.now.image) s.firsts.items s.blocks.items a.now.image s.sectors.size s.sectors.within refl))

pub add-requires-clause-within : goal.add-requires-clause-within
add-requires-clause-within g c =
    let per = g.D.SectorDevice.per in let s = c.args.self.now in let a = g.D.SectorDevice.plate s.device in
    omega (
      arith,
      first_in c.sector_blocks.result per (length a.now.image) c.args.n c.sector_blocks.ensures a.some a.aligned (omega (arith, c.requires.within, length_put per (length a.now.image) s.firsts.items s.blocks.items a.now.image s.sectors.size s.sectors.within refl)),
      ap length (image_stays a (g.D.SectorDevice.plate c.read_sector.new.device) c.read_sector.ensures.same),
    )

pub add-requires-clause-aligned : goal.add-requires-clause-aligned
add-requires-clause-aligned g c = first_even c.sector_blocks.result g.D.SectorDevice.per c.args.n c.sector_blocks.ensures

pub returns-in-Ok-clause-same : goal.returns-in-Ok-clause-same
returns-in-Ok-clause-same g c =
    let s = c.args.self.now in let a = g.D.SectorDevice.plate s.device in let d = g.D.SectorDevice.plate c.read_sector.new.device in
    unchanged_twice (layer_disk s) _ (layer_disk c.add.new.self)
    (unchanged_stays a d s.firsts.items s.firsts.items s.blocks.items s.blocks.items s.sectors _ s.refused s.refused c.read_sector.ensures.same
    (shown_stays a d s.firsts.items s.blocks.items c.read_sector.ensures.same))
    c.add.ensures.same
