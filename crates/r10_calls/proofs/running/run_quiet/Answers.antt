use Rattle.std.proofs.Common.{ap}
use Rattle.r10_calls.proofs.Quiet.{left_alone}
use Rattle.r10_calls.proofs.running.run_quiet.Goals as goal

pub returns-clause-stays : goal.returns-clause-stays
returns-clause-stays g c = ap g.M.SteadyMedium.identity (left_alone g.M.BlockMedium.disk c.args.world.now c.run_one.new.world c.args.event c.run_one.result c.requires c.run_one.ensures.steps)
