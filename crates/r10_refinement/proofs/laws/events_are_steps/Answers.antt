use Rattle.r10_refinement.proofs.Growing.{event_recorded}
use Rattle.r10_refinement.proofs.laws.events_are_steps.Goals as goal

pub returns : goal.returns
returns c = event_recorded c.a_step_stays_sound.ensures
