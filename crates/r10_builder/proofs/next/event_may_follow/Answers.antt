use Rattle.r10_builder.proofs.Following.{event_follows}
use Rattle.r10_builder.proofs.next.event_may_follow.Goals as goal

pub returns : goal.returns
returns c = event_follows
