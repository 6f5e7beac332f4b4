use Rattle.std.proofs.Common.{ℕ, ◌+◌, ◌-◌, ◌*◌, length, ap, refl, subst, sym, ◌∙◌}
use Rattle.std.specs.Prelude.{slice_index}
use Rattle.r10_medium.specs.Disk.{block_at}
use Rattle.r10_sector.specs.Held.{IsAmong}
use Rattle.r10_sector.proofs.Placing.{put_others}
use Rattle.r10_doublewrite.specs.Last.{IsLast}
use Rattle.r10_doublewrite.proofs.Lasting.{put_last}
use Rattle.r10_doublewrite.proofs.read.read_through.Goals as goal

pub returns-in-Some-clause-read : goal.returns-in-Some-clause-read
returns-in-Some-clause-read g c =
    let per = g.D.SectorDevice.per in let image = (g.D.SectorDevice.plate c.args.device.now).now.image in let fs = c.args.firsts.now in
    let n = c.args.n in let i = c.in-Some.i in let same = c.sector_blocks-per.ensures in
    ap (block_at c.args.blocks.now) (c.index_of.ensures.is ∙ ap (λ (k : ℕ). k * i + (n - slice_index fs i)) same)
    ∙ sym (put_last per (length image) fs c.args.blocks.now image n i c.requires.sectors.size c.requires.sectors.within refl (subst (λ (k : ℕ). IsLast k fs n i) same c.in-Some.ensures))

pub returns-clause-read : goal.returns-clause-read
returns-clause-read g c =
    let per = g.D.SectorDevice.per in let image = (g.D.SectorDevice.plate c.args.device.now).now.image in let fs = c.args.firsts.now in
    c.in-Ok.ensures.read
    ∙ sym (put_others per (length image) fs c.args.blocks.now image c.requires.sectors.size c.requires.sectors.within refl c.args.n
    (subst (λ (k : ℕ). IsAmong k fs c.args.n → ⊥) c.sector_blocks-per.ensures c.in_default.ensures))
