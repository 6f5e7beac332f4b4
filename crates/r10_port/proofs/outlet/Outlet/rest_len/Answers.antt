use Rattle.std.proofs.Common.{◌≡◌, ◌∙◌, sym, ap, max}
use Rattle.rtrb.specs.Ring.{sent, received, known_items, consumer_capacity}
use Rattle.r10_port.specs.Items.{samples}
use Rattle.r10_port.specs.Ends.{Sending, Receiving, places, ring_of}
use Rattle.r10_port.proofs.Items.{few_left, left_behind}
use Rattle.r10_port.proofs.outlet.Outlet.rest_len.Goals as goal

pub returns-clause-all : goal.returns-clause-all
returns-clause-all c =
    let out = c.self.inside.consumer in
    let looked = c.slots_beside.new.self in
    let items = c.port.inside.producer in
    let items2 = c.slots_beside.new.producer in
    rw (← c.self.view_is, ← c.port.view_is) (left_behind (received out) (received looked) (known_items looked) (sent items) (sent items2) c.slots_beside.ensures.looked.1 c.slots_beside.ensures.producer.1 c.slots_beside.ensures.fifo c.port.invariant.entries c.self.invariant.entries).all

pub returns-clause-known : goal.returns-clause-known
returns-clause-known c =
    let out = c.self.inside.consumer in
    let looked = c.slots_beside.new.self in
    let items = c.port.inside.producer in
    let items2 = c.slots_beside.new.producer in
    rw (← c.self.view_is, ← c.port.view_is) (left_behind (received out) (received looked) (known_items looked) (sent items) (sent items2) c.slots_beside.ensures.looked.1 c.slots_beside.ensures.producer.1 c.slots_beside.ensures.fifo c.port.invariant.entries c.self.invariant.entries).known

pub returns-clause-count : goal.returns-clause-count
returns-clause-count c =
    let out = c.self.inside.consumer in
    let looked = c.slots_beside.new.self in
    let items = c.port.inside.producer in
    let items2 = c.slots_beside.new.producer in
    let left = left_behind (received out) (received looked) (known_items looked) (sent items) (sent items2) c.slots_beside.ensures.looked.1 c.slots_beside.ensures.producer.1 c.slots_beside.ensures.fifo c.port.invariant.entries c.self.invariant.entries in
    rw (← c.self.view_is, ← c.port.view_is) (c.slots_beside.ensures.value ∙ left.count, c.slots_beside.ensures.value)

pub returns-clause-few : goal.returns-clause-few
returns-clause-few c =
    let out = c.self.inside.consumer in
    let looked = c.slots_beside.new.self in
    let items = c.port.inside.producer in
    let items2 = c.slots_beside.new.producer in
    let spec = c.port.inside.spec in
    let left = left_behind (received out) (received looked) (known_items looked) (sent items) (sent items2) c.slots_beside.ensures.looked.1 c.slots_beside.ensures.producer.1 c.slots_beside.ensures.fifo c.port.invariant.entries c.self.invariant.entries in
    let one_ring : places (ring_of out.end) ≡ places (ring_of items.end) = ap places (ap (λ (o : Receiving). o.ring) c.self.view_is ∙ c.requires ∙ sym (ap (λ (p : Sending). p.ring) c.port.view_is)) in
    let fits : consumer_capacity looked ≡ max spec.capacity 1 = c.slots_beside.ensures.looked.0.1 ∙ out.reads.2 ∙ one_ring ∙ sym items.writes.2 ∙ c.port.invariant.places in
    rw (← c.self.view_is, ← c.port.view_is) (few_left (samples (received out)) (samples (sent items)) (known_items looked) spec.capacity (consumer_capacity looked) left looked.counts fits c.port.invariant.room)
