use Rattle.r10_builder.proofs.Following.{grows_on, says_so}
use Rattle.r10_builder.proofs.next.one_more_grows.Goals as goal

pub returns : goal.returns
returns c = record { more = grows_on; file = says_so }
