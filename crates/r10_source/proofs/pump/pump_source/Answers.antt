use Rattle.std.proofs.Common.{◌+◌, arith}
use Rattle.r10_source.proofs.Feeding.{pumps_join, pumps_most}
use Rattle.r10_source.proofs.pump.pump_source.Goals as goal

pub loop-preserved : goal.loop-preserved
loop-preserved g c =
    rw c.add.ensures (pumps_join c.loop.counter 1 _ _ _ _ _ _ c.loop.pumped c.source_turn.result c.loop.invariant.0 c.source_turn.ensures, rw c.add.ensures at c.if-pumped.false)

pub returns-then-pumped : goal.returns-then-pumped
returns-then-pumped g c =
    rw c.add.ensures (pumps_most (c.loop.counter + 1) c.args.turns _ _ _ _ _ (omega (arith, c.loop-test.true))
    (pumps_join c.loop.counter 1 _ _ _ _ _ _ c.loop.pumped c.source_turn.result c.loop.invariant.0 c.source_turn.ensures))
