use Rattle.r10_builder.proofs.Following.{report_follows}
use Rattle.r10_builder.proofs.next.report_may_follow.Goals as goal

pub returns : goal.returns
returns c = report_follows
