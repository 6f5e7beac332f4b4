use Rattle.r10_refinement.proofs.SafeCalls.{files_said}
use Rattle.r10_refinement.proofs.Keeping.{safe_synced}
use Rattle.r10_refinement.proofs.power_loss.synced_media_are_safe.Goals as goal

pub returns : goal.returns
returns g c = λ k m means synced. safe_synced k.config k.work m.files (g.M.BlockMedium.disk c.args.medium.now) synced (files_said k.config k.work (g.M.BlockMedium.disk c.args.medium.now).blocks m.files means.files)
