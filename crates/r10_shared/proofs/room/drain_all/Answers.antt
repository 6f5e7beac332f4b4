use Rattle.std.proofs.Common.{arith}
use Rattle.r10_shared.proofs.Draining.{one_drained}
use Rattle.r10_shared.proofs.room.drain_all.Goals as goal

pub loop-place-preserved : goal.loop-place-preserved
loop-place-preserved g c =
    one_drained _ _ _ _ _ _ _ c.requires.number c.requires.channels c.requires.apart c.loop-place.place c.loop-place.outlets.items _ c.loop-place.feeds.items c.loop-place.reports.items c.index_mut.result.now _ c.index_mut-in-loop-place.result.now _ c.loop-place.invariant
    (omega (arith, c.loop-place-test.true, c.len-place-end.ensures, c.loop-place.invariant.number)) c.index_mut.ensures.value c.index_mut-in-loop-place.ensures.value c.drain_one.ensures.drained c.drain_one.ensures.others
