use Rattle.r10_builder.proofs.Following.{time_follows}
use Rattle.r10_builder.proofs.next.time_may_follow.Goals as goal

pub returns : goal.returns
returns c = time_follows
