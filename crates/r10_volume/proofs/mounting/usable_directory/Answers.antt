use Rattle.std.proofs.Common.{ℕ, ◌∙◌, length, ap, subst}
use Rattle.r10_dirchain.specs.Checked.{IsCheckError}
use Rattle.r10_dirchain.specs.Mount.{mount_rules}
use Rattle.r10_volume.proofs.Taken.{of_check}
use Rattle.r10_volume.proofs.mounting.usable_directory.Goals as goal

pub returns-in-Err-check-clause-fault : goal.returns-in-Err-check-clause-fault
returns-in-Err-check-clause-fault g c =
    let old = g.M.BlockMedium.disk c.args.medium.now in
    of_check c.args.reserved old.blocks c.in-Ok.directory c.in-Err-check.error c.in-Ok.ensures.read
    (subst (λ (n : ℕ). IsCheckError (mount_rules c.args.reserved n c.in-Ok.directory) c.in-Err-check.error) (c.blocks-2.ensures ∙ ap length c.in-Ok.ensures.same.reads) c.in-Err-check.ensures.fault)
