use Rattle.r10_builder.proofs.Following.{handed_out_follows}
use Rattle.r10_builder.proofs.next.handed_out_may_follow.Goals as goal

pub returns : goal.returns
returns c = handed_out_follows
