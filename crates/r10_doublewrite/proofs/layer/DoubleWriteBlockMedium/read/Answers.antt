use Rattle.std.proofs.Common.{length, refl, arith}
use Rattle.r10_sector.proofs.Placing.{length_put}
use Rattle.r10_doublewrite.proofs.layer.DoubleWriteBlockMedium.read.Goals as goal

pub read_through-requires-clause-within : goal.read_through-requires-clause-within
read_through-requires-clause-within g c =
    let per = g.D.SectorDevice.per in let s = c.args.self.now in let a = g.D.SectorDevice.plate s.device in
    omega (arith, c.requires, length_put per (length a.now.image) s.firsts.items s.blocks.items a.now.image s.sectors.size s.sectors.within refl)
