use Rattle.r10_refinement.proofs.Growing.{event_grows_none, time_grows_none}
use Rattle.r10_refinement.proofs.laws.own_entries_count_for_none.Goals as goal

pub returns-clause-times : goal.returns-clause-times
returns-clause-times c = time_grows_none

pub returns-clause-events : goal.returns-clause-events
returns-clause-events c = event_grows_none
