use Rattle.std.proofs.Common.{arith}
use Rattle.r10_b1553.proofs.Bodies.{next_size}
use Rattle.r10_b1553.proofs.body.BusBody.size.Goals as goal

pub overflow_mul-size : goal.overflow_mul-size
overflow_mul-size c =
    let next = next_size c.as_slice-entry-items.result.now c.loop-entry.entry-index c.entry-item.result c.loop-entry-test.true c.entry-item.is in
    omega (arith, c.requires, c.loop-entry.invariant, c.len.ensures)

pub overflow_add-size : goal.overflow_add-size
overflow_add-size c =
    let next = next_size c.as_slice-entry-items.result.now c.loop-entry.entry-index c.entry-item.result c.loop-entry-test.true c.entry-item.is in
    omega (arith, c.requires, c.loop-entry.invariant, c.len.ensures)

pub overflow_add-size-in-loop-entry : goal.overflow_add-size-in-loop-entry
overflow_add-size-in-loop-entry c =
    let next = next_size c.as_slice-entry-items.result.now c.loop-entry.entry-index c.entry-item.result c.loop-entry-test.true c.entry-item.is in
    omega (arith, c.requires, c.loop-entry.invariant, c.len.ensures)

pub loop-entry-preserved : goal.loop-entry-preserved
loop-entry-preserved c =
    let next = next_size c.as_slice-entry-items.result.now c.loop-entry.entry-index c.entry-item.result c.loop-entry-test.true c.entry-item.is in
    omega (arith, c.loop-entry.invariant, c.len.ensures)
