use Rattle.r10_builder.proofs.Following.{begins}
use Rattle.r10_builder.proofs.next.file_begins.Goals as goal

pub returns : goal.returns
returns c = begins
