use Rattle.r10_lane.proofs.Waiting.{refused_before_room}
use Rattle.r10_lane.proofs.ring_lane.RingLane.would_take.Goals as goal

pub returns-in-Err : goal.returns-in-Err
returns-in-Err c = let v = c.self.view_is in (refused_before_room c.args.self.now c.args.count c.args.message.now c.in-Err.refusal (rw (← v) c.in-Err.ensures)).0
