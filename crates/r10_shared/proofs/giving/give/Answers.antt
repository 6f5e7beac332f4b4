use Rattle.std.proofs.Common.{◌+◌, drop}
use Rattle.std.proofs.lemmas.List.{drop_all}
use Rattle.r10_shared.proofs.Given.{given_all, given_last, given_on, next_left}
use Rattle.r10_shared.proofs.giving.give.Goals as goal

pub returns-then-not-give_one : goal.returns-then-not-give_one
returns-then-not-give_one g c =
    let at = c.loop-order.order-index in
    let (answer, asked, reported) = c.give_one.ensures in
    given_last g.C.Control.asked g.met.C.Control.joins c.args.orders.now _ (drop (at + 1) c.args.orders.now) c.order-item.result answer c.give_one.result _ _ _ c.loop-order.invariant
    (next_left c.args.orders.now at c.order-item.result c.loop-order-test.true c.order-item.is) asked reported (search)

pub loop-order-preserved : goal.loop-order-preserved
loop-order-preserved g c =
    let at = c.loop-order.order-index in
    let (answer, asked, reported) = c.give_one.ensures in
    given_on g.C.Control.asked g.met.C.Control.joins c.args.orders.now _ (drop (at + 1) c.args.orders.now) c.order-item.result answer c.give_one.result _ _ _ c.loop-order.invariant
    (next_left c.args.orders.now at c.order-item.result c.loop-order-test.true c.order-item.is) asked reported (search)

pub returns : goal.returns
returns g c = given_all g.C.Control.asked c.args.orders.now _ _ _ c.loop-order.invariant (drop_all c.loop-order.order-index c.args.orders.now (search))
