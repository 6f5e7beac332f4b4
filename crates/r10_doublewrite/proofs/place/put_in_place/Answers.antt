use Rattle.std.proofs.Common.{◌∷◌, [], ℕ, take, drop, ap, ◌∙◌}
use Rattle.std.specs.Prelude.{slice_index}
use Rattle.r10_sector.specs.Held.{AgreesBut}
use Rattle.r10_doublewrite.proofs.Changing.{agrees_more, grown, placed_more}
use Rattle.r10_doublewrite.proofs.place.put_in_place.Goals as goal

pub returns-in-Err-clause-changes : goal.returns-in-Err-clause-changes
returns-in-Err-clause-changes g c =
    let per = g.D.SectorDevice.per in let fs = c.args.firsts.now in let i = c.loop-i.i in
    grown (AgreesBut per fs) (AgreesBut per (slice_index fs i ∷ [])) (agrees_more per i fs c.loop-i-test.true)
    (g.D.SectorDevice.plate c.args.device.now) (g.D.SectorDevice.plate c.loop-i.device) (g.D.SectorDevice.plate c.write.new.self)
    c.loop-i.invariant.1.changes c.write.ensures.tears

pub loop-i-preserved : goal.loop-i-preserved
loop-i-preserved g c = (
  c.loop-i.invariant.0,
  placed_more c.args.firsts.now c.args.blocks.now (g.D.SectorDevice.plate c.args.device.now) (g.D.SectorDevice.plate c.loop-i.device) (g.D.SectorDevice.plate c.write.new.self)
      c.loop-i.i c.loop-i.rest.now c.split_at.result.0.now c.split_at.result.1.now c.loop-i-test.true
      (c.split_at.ensures.front ∙ ap (λ (k : ℕ). take k c.loop-i.rest.now) c.loop-i.invariant.0)
      (c.split_at.ensures.back ∙ ap (λ (k : ℕ). drop k c.loop-i.rest.now) c.loop-i.invariant.0)
      c.loop-i.invariant.1 c.write.ensures.tears c.in_default.ensures.written c.in_default.ensures.trust c.write.ensures.counts.no_fewer,
)
