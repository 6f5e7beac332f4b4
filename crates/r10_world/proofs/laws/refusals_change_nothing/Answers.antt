use Rattle.r10_world.proofs.Answering.{change_nothing}
use Rattle.r10_world.proofs.laws.refusals_change_nothing.Goals as goal

pub returns : goal.returns
returns g c = change_nothing g.M.BlockMedium.disk
