use Rattle.std.proofs.Common.{sym, subst}
use Rattle.r10_calls.specs.Opening.{OpensRecorder}
use Rattle.r10_world.specs.State.{WorldState}
use Rattle.r10_calls.proofs.Opened.{opened}
use Rattle.r10_calls.proofs.opening.open.Goals as goal

pub returns-in-Ok-new-clause-opens : goal.returns-in-Ok-new-clause-opens
returns-in-Ok-new-clause-opens g c =
    let new = c.in-Ok-new.ensures in
    subst (λ (w : WorldState _). OpensRecorder g.M.BlockMedium.disk c.args.script.now c.args.medium w) (sym c.new-in-Ok-new.ensures)
    (opened g.M.BlockMedium.disk c.args.script.now c.args.medium c.in-Ok-new.world c.in_ok-settings.settings new.config c.in_ok-settings.ensures.settings.0 new.medium
    new.stands new.recovers new.safe)
