use Rattle.r10_refinement.proofs.Finding.{found_again}
use Rattle.r10_refinement.proofs.power_loss.an_image_is_found_again.Goals as goal

pub returns : goal.returns
returns c = found_again
