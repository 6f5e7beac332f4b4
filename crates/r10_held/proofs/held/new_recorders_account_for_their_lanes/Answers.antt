use Rattle.r10_held.proofs.Firsts.{new_lanes_accounted}
use Rattle.r10_held.proofs.held.new_recorders_account_for_their_lanes.Goals as goal

pub returns : goal.returns
returns g c = new_lanes_accounted _ _
