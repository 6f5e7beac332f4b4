use Rattle.std.proofs.Common.{length, refl, sym, ◌∙◌}
use Rattle.r10_sector.proofs.Placing.{length_put}
use Rattle.r10_doublewrite.proofs.layer.DoubleWriteBlockMedium.blocks.Goals as goal

pub returns : goal.returns
returns g c =
    let per = g.D.SectorDevice.per in let s = c.args.self.now in let a = g.D.SectorDevice.plate s.device in
    c.blocks-2.ensures ∙ sym (length_put per (length a.now.image) s.firsts.items s.blocks.items a.now.image s.sectors.size s.sectors.within refl)
