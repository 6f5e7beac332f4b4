use Rattle.std.proofs.Common.{arith, [], ◌∷◌, length-append}
use Rattle.rtrb.specs.Ring.{received, known_items}
use Rattle.r10_port.specs.declared.item.Item.TheVariants.{Announce, Entry}
use Rattle.r10_port.specs.Ends.{ring_of}
use Rattle.r10_port.proofs.Items.{bounded, first_stays, one_more}
use Rattle.r10_port.proofs.Steps.{takes}
use Rattle.r10_port.proofs.outlet.Outlet.take_known.Goals as goal

pub invariant_of-self : goal.invariant_of-self
invariant_of-self c =
    let items = received c.self.inside.consumer in
    let x = c.in-Entry.sample in
    rw c.in-Entry.ensures.received.0 (record {
      announced = first_stays items _ (Announce c.self.inside.spec) c.self.invariant.announced;
      entries = omega (arith, one_more items x, length-append items (Entry x ∷ []), c.self.invariant.entries);
      bound = bounded items c.self.inside.spec x c.self.invariant.announced c.in-Entry.ensures.allowed;
    })

pub returns-clause-took : goal.returns-clause-took
returns-clause-took c =
    let old = c.self.inside.consumer in
    let new = c.pop_known.new.self in
    let r = c.in-Entry.ensures.ring.0 in
    rw (← c.self.view_is) (takes (ring_of old.end) (ring_of new.end) c.self.inside.spec (received old) (received new) (known_items old) (known_items new) c.in-Entry.sample
    (λ i. (r.0 i, r.1 i, r.2 i, r.3 i)) c.in-Entry.ensures.received.0 c.self.invariant.announced c.in-Entry.ensures.allowed)
