use Rattle.std.proofs.Common.{length, refl, subst, sym}
use Rattle.r10_medium.specs.Disk.{IsWhole}
use Rattle.r10_sector.specs.Held.{put_sectors}
use Rattle.r10_sector.proofs.Placing.{whole_put}
use Rattle.r10_doublewrite.proofs.Sectors.{whole_part}
use Rattle.r10_doublewrite.proofs.read.read_sector.Goals as goal

pub returns-clause-whole : goal.returns-clause-whole
returns-clause-whole g c =
    let per = g.D.SectorDevice.per in let old = g.D.SectorDevice.plate c.args.device.now in
    subst IsWhole (sym c.loop-j.invariant.4)
    (whole_part c.loop-j.j c.args.first (put_sectors per c.args.firsts.now c.args.blocks.now old.now.image)
    (whole_put per (length old.now.image) c.args.firsts.now c.args.blocks.now old.now.image c.requires.sectors.size c.requires.sectors.within refl c.requires.sectors.whole
    (old.sized old.now old.stands).whole))
