use Rattle.r10_refinement.proofs.Showing.{step_shows}
use Rattle.r10_refinement.proofs.power_loss.other_events_show_no_more.Goals as goal

pub returns : goal.returns
returns c = step_shows
