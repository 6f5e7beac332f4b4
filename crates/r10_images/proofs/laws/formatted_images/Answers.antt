use Rattle.r10_images.proofs.Zeros.{left_is}
use Rattle.r10_images.proofs.laws.formatted_images.Goals as goal

pub returns : goal.returns
returns c = λ blocks volume left some turned first. left_is blocks volume left some turned first
