use Rattle.std.proofs.Common.{length, slice_set, ap, refl, arith, ◌∙◌}
use Rattle.r10_medium.specs.Disk.{Image}
use Rattle.r10_sector.proofs.Placing.{length_put}
use Rattle.r10_doublewrite.specs.LayerDisk.{layer_disk}
use Rattle.r10_doublewrite.proofs.Lasting.{put_at}
use Rattle.r10_doublewrite.proofs.Shown.{wrote_after, wrote_by, wrote_none}
use Rattle.r10_doublewrite.proofs.layer.DoubleWriteBlockMedium.write.Goals as goal

pub returns-in-Ok-clause-written : goal.returns-in-Ok-clause-written
returns-in-Ok-clause-written g c =
    let per = g.D.SectorDevice.per in let s = c.place.new.self in let p = g.D.SectorDevice.plate s.device in
    put_at per (length p.now.image) s.firsts.items c.deref.result.now s.blocks.items p.now.image c.args.n c.in-Ok.i c.sector_blocks.result c.index_of-at.result c.args.block.now
    c.sector_blocks.ensures c.deref.ensures.value c.index_of-at.ensures.is s.sectors.size s.sectors.within refl c.in-Ok.ensures.last
    ∙ ap (λ (l : Image). slice_set l c.args.n c.args.block.now) c.place.ensures.same.reads

pub returns-in-Ok-clause-wrote : goal.returns-in-Ok-clause-wrote
returns-in-Ok-clause-wrote g c =
    let per = g.D.SectorDevice.per in let s = c.place.new.self in let p = g.D.SectorDevice.plate s.device in
    wrote_after c.args.n c.args.block.now (layer_disk c.args.self.now) (layer_disk s) _ c.place.ensures.same
    (wrote_by p s.firsts.items s.blocks.items (slice_set s.blocks.items c.index_of-at.result c.args.block.now) s.sectors _ s.refused c.args.n c.args.block.now
    (omega (arith, c.requires, ap length c.place.ensures.same.reads, length_put per (length p.now.image) s.firsts.items s.blocks.items p.now.image s.sectors.size s.sectors.within refl))
    (put_at per (length p.now.image) s.firsts.items c.deref.result.now s.blocks.items p.now.image c.args.n c.in-Ok.i c.sector_blocks.result c.index_of-at.result c.args.block.now
    c.sector_blocks.ensures c.deref.ensures.value c.index_of-at.ensures.is s.sectors.size s.sectors.within refl c.in-Ok.ensures.last))

pub returns-in-Err-clause-wrote : goal.returns-in-Err-clause-wrote
returns-in-Err-clause-wrote g c = wrote_none c.args.n c.args.block.now (layer_disk c.args.self.now) (layer_disk c.place.new.self) c.place.ensures.same
