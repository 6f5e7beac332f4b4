use Rattle.std.proofs.Common.{[], sym, subst}
use Rattle.r10_machine.specs.Machine.{fresh}
use Rattle.r10_world.specs.WorldSteps.{WorldStandsFor}
use Rattle.r10_command.proofs.play.fresh_world.Goals as goal

-- the medium that was formatted has no files
pub returns-in-Ok-new-clause-stands : goal.returns-in-Ok-new-clause-stands
returns-in-Ok-new-clause-stands g c =
    let disk = g.M.BlockMedium.disk in
    subst (λ (m : g.row.M.Denot). WorldStandsFor disk c.in-Ok-new.world (fresh c.args.settings.channels [] (disk m).failures)) (sym c.in-Ok-new.ensures.medium) (c.in-Ok-new.ensures.stands [] c.in-Ok.ensures.has)
