use Rattle.std.proofs.Common.{arith}
use Rattle.r10_session.proofs.Opening.{all_opened, none_opened, one_opened}
use Rattle.r10_session.proofs.readers.open_all.Goals as goal

pub loop-place-init : goal.loop-place-init
loop-place-init g c = none_opened g.M.BlockMedium.disk _ _ _ _ c.new-refused.ensures.items c.new-cursors.ensures.items

pub loop-place-preserved : goal.loop-place-preserved
loop-place-preserved g c =
    rw (c.in_ok-add.ensures.refused, c.in_ok-add.ensures.cursors)
    (one_opened g.M.BlockMedium.disk _ _ c.loop-place.place c.loop-place.refused.items c.loop-place.cursors.items c.loop-place.held c.open.new.held c.index-tables-place.result c.in_ok-opened.opened c.loop-place.invariant c.loop-place-test.true c.index-tables-place.is c.in_ok-opened.ensures)

pub returns : goal.returns
returns g c = all_opened g.M.BlockMedium.disk _ _ c.loop-place.place _ _ _ c.loop-place.invariant c.loop-place-test.false
