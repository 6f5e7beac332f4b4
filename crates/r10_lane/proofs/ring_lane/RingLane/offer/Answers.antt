use Rattle.std.proofs.Common.{rules}
use Rattle.r10_lane.proofs.Waiting.{refused_before_room, waits_more}
use Rattle.r10_lane.proofs.ring_lane.RingLane.offer.Goals as goal
use Rattle.r10_lane.proofs.ring_lane.RingLane.offer.Goals.{in-Ok-try_push_back, in-Err-try_push_back}

pub returns-in-Err-clause-offers : goal.returns-in-Err-clause-offers
returns-in-Err-clause-offers c = let v = c.self.view_is in refused_before_room c.args.self.now c.args.count c.args.message _ (search rules)

pub invariant_of-self : goal.invariant_of-self
invariant_of-self c =
    let s = c.self.inside in
    let fine = c.in-Ok.ensures in
    rw c.in-Ok-try_push_back.ensures.ok (record { room = c.self.invariant.room; waits = waits_more s.spec s.last s.waiting.items _ c.self.invariant.waits (rw (fine.0) (fine.1)) c.after-gap.ensures.sound })

pub returns-clause-offers : goal.returns-clause-offers
returns-clause-offers c = elim c.match-try_push_back.branch [
  | in-Ok-try_push_back w ↦ rw (w.self-is, w.result-is) (search rules)
  | in-Err-try_push_back w ↦ rw (w.self-is, w.result-is) (search rules)
]
