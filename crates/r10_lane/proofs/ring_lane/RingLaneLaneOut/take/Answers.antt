use Rattle.r10_machine.specs.SoundParts.{count_or_0}
use Rattle.r10_lane.proofs.Waiting.{took_first, waits_less}
use Rattle.r10_lane.proofs.ring_lane.RingLaneLaneOut.take.Goals as goal

pub invariant_of-self : goal.invariant_of-self
invariant_of-self c =
    let s = c.self.inside in
    rw c.pop_front.ensures.items (record { room = c.self.invariant.room; waits = waits_less s.spec (count_or_0 s.last) s.waiting.items c.self.invariant.waits })

pub returns-clause-took : goal.returns-clause-took
returns-clause-took c =
    let s = c.self.inside in
    rw (← c.self.view_is, c.pop_front.ensures.value, c.pop_front.ensures.items) (took_first (record { spec = s.spec; waiting = s.waiting.items; last = s.last; missed = s.missed; lost = s.lost; erased = 0 }) s.waiting.items c.self.invariant.waits)
