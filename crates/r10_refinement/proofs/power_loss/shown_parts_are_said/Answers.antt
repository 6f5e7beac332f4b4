use Rattle.r10_refinement.proofs.Finding.{parts_said}
use Rattle.r10_refinement.proofs.power_loss.shown_parts_are_said.Goals as goal

pub returns : goal.returns
returns c = parts_said
