use Rattle.r10_blockout.proofs.Runs.{shown_as}
use Rattle.r10_blockout.proofs.laws.shown_run.Goals as goal

pub returns : goal.returns
returns c = shown_as
