use Rattle.std.proofs.Common.{sym}
use Rattle.r10_shared.proofs.Settles.{may_drain_out}
use Rattle.r10_shared.proofs.ending.settle.Goals as goal

pub drain_all-requires : goal.drain_all-requires
drain_all-requires g c =
    rw (c.in-Ok.ensures.lanes, sym c.as_slice.ensures.value)
    (may_drain_out g.M.BlockMedium.disk g.N.Rings.rings c.args.held.recorder (λ feed. feed.line) (λ feed. feed.tally) _ c.look.ensures.lanes _ c.in-Some.ensures)

pub returns-in-Ok-clause-moved : goal.returns-in-Ok-clause-moved
returns-in-Ok-clause-moved g c = record {
  ready = c.in-Some.reports.items;
  are_ready = rw (sym c.as_slice.ensures.value) c.in-Some.ensures;
  moved = rw (sym c.in-Ok.ensures.lanes) c.drain_all.ensures;
}
