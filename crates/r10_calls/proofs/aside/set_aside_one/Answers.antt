use Rattle.std.proofs.Common.{ℕ, subst}
use Rattle.r10_dirchain.specs.declared.read.ChainError.{ChainError}
use Rattle.r10_volume.specs.Mounting.{IsMountError, IsUnusable}
use Rattle.r10_calls.proofs.aside.set_aside_one.Goals as goal

pub returns-in-Err-BadDirectory-clause-unusable : goal.returns-in-Err-BadDirectory-clause-unusable
returns-in-Err-BadDirectory-clause-unusable g c = λ same.
    let image = (g.M.BlockMedium.disk c.args.medium.now).blocks in
    let is = subst (λ (error : ChainError). IsMountError c.directory.result image error) c.in-Err-BadDirectory.field-0-is c.in-Err-BadDirectory.ensures.fault in (
      c.in-Ok.settings,
      c.in-Ok.ensures.settings.0,
      c.in-Err-BadDirectory.field-0-0,
      subst (λ (k : ℕ). IsUnusable k image c.in-Err-BadDirectory.field-0-0) c.directory.ensures.value is,
    )
