use Rattle.std.proofs.Common.{arith, rules, [], ◌∷◌, length-append}
use Rattle.rtrb.specs.Ring.{received, known_items}
use Rattle.r10_port.specs.declared.item.Item.TheVariants.{Announce, Entry}
use Rattle.r10_port.specs.Ends.{ring_of}
use Rattle.r10_port.proofs.Items.{bounded, joins, first_stays, one_more}
use Rattle.r10_port.proofs.Steps.{takes, reaches}
use Rattle.r10_port.proofs.outlet.OutletLaneOut.take.Goals as goal
use Rattle.r10_port.proofs.outlet.OutletLaneOut.take.Goals.{in-Ok-Entry, in-Err}

pub invariant_of-self : goal.invariant_of-self
invariant_of-self c = elim c.match-pop.branch [
  | in-Ok-Entry w ↦
      let items = received c.self.inside.consumer in
      let x = w.in-Ok-Entry.sample in
      let ok = rw w.in-Ok-Entry.field-0-is at w.in-Ok-Entry.ensures.ok in
      rw ok.0 (record {
        announced = first_stays items _ (Announce c.self.inside.spec) c.self.invariant.announced;
        entries = omega (arith, one_more items x, length-append items (Entry x ∷ []), c.self.invariant.entries);
        bound = bounded items c.self.inside.spec x c.self.invariant.announced ok.2;
      })
  | in-Err w ↦ rw w.in-Err.ensures.empty.0 (record { announced = c.self.invariant.announced; entries = c.self.invariant.entries; bound = c.self.invariant.bound })
]

pub returns-clause-took : goal.returns-clause-took
returns-clause-took c = elim c.match-pop.branch [
  | in-Ok-Entry w ↦
      let old = c.self.inside.consumer in
      let new = c.pop.new.self in
      let r = c.pop.ensures.ring.0 in
      let ok = rw w.in-Ok-Entry.field-0-is at w.in-Ok-Entry.ensures.ok in
      rw (w.result-is, ← c.self.view_is) (takes (ring_of old.end) (ring_of new.end) c.self.inside.spec (received old) (received new) (known_items old) (known_items new) w.in-Ok-Entry.sample
      (λ i. (r.0 i, r.1 i, r.2 i, r.3 i)) ok.0 c.self.invariant.announced ok.2)
  | in-Err w ↦ rw (w.result-is, ← c.self.view_is) (search rules)
]

pub returns-clause-climbs : goal.returns-clause-climbs
returns-clause-climbs c = elim c.match-pop.branch [
  | in-Ok-Entry w ↦
      let old = c.self.inside.consumer in
      let new = c.pop.new.self in
      let ok = rw w.in-Ok-Entry.field-0-is at w.in-Ok-Entry.ensures.ok in
      let may = joins (received old) c.self.inside.spec w.in-Ok-Entry.sample c.self.invariant.announced ok.2 in
      let reached = reaches (received old) (received new) w.in-Ok-Entry.sample ok.0 in
      rw (w.result-is, ← c.self.view_is) (may.1, omega (arith, reached))
  | in-Err w ↦ rw w.result-is tt
]
