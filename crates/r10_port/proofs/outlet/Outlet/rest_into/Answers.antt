use Rattle.std.proofs.Common.{◌≡◌, ◌-◌, ◌∙◌, length, min, vec_capacity, ap, arith}
use Rattle.r10_port.specs.Ends.{unreceived}
use Rattle.r10_port.proofs.Resting.{moves_more, moves_all}
use Rattle.r10_port.proofs.outlet.Outlet.rest_into.Goals as goal

pub loop-preserved : goal.loop-preserved
loop-preserved c = (
  moves_more c.rest_len.new.self c.loop.self c.take_known.new.self c.args.into.now.items c.loop.into.items c.push_reserved.new.self.items c.loop.counter c.take_known.result
      c.loop.invariant.0 c.take_known.ensures.took c.take_known.ensures.ahead c.push_reserved.ensures.items,
  omega (arith, ap length c.take_known.ensures.ahead, c.loop.invariant.1),
  omega (arith, c.push_reserved.ensures.len, c.loop.invariant.2),
  c.push_reserved.ensures.capacity ∙ c.loop.invariant.3,
)

pub returns-clause-took : goal.returns-clause-took
returns-clause-took c =
    let into = c.args.into.now in
    let waits = unreceived c.args.self.now c.args.port.now in
    let room = vec_capacity into - length into.items in
    let count : c.min-count.result ≡ min (length waits) room = omega (arith, c.min-count.ensures, c.saturating_sub-room.ensures, c.capacity.ensures, c.len.ensures, into.ok.0, c.rest_len.ensures.count.0) in
    (moves_all c.args.self.now c.rest_len.new.self c.loop.self into.items c.loop.into.items waits c.loop.counter room c.loop.invariant.0 c.rest_len.ensures.took c.rest_len.ensures.known
    (omega (arith, count, c.loop-test.false, c.loop.auto.counter-end))).0

pub returns-clause-moved : goal.returns-clause-moved
returns-clause-moved c =
    let into = c.args.into.now in
    let waits = unreceived c.args.self.now c.args.port.now in
    let room = vec_capacity into - length into.items in
    let count : c.min-count.result ≡ min (length waits) room = omega (arith, c.min-count.ensures, c.saturating_sub-room.ensures, c.capacity.ensures, c.len.ensures, into.ok.0, c.rest_len.ensures.count.0) in
    (moves_all c.args.self.now c.rest_len.new.self c.loop.self into.items c.loop.into.items waits c.loop.counter room c.loop.invariant.0 c.rest_len.ensures.took c.rest_len.ensures.known
    (omega (arith, count, c.loop-test.false, c.loop.auto.counter-end))).1
