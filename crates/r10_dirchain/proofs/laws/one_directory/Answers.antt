use Rattle.r10_dirchain.proofs.Unique.{one_directory, one_fault, not_both}
use Rattle.r10_dirchain.proofs.laws.one_directory.Goals as goal

pub returns : goal.returns
returns c = record { chain = one_directory; fault = one_fault; either = not_both }
