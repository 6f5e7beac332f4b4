use Rattle.std.proofs.Common.{subst, sym, ap, refl}
use Rattle.r10_machine.specs.declared.event.Event.{Event}
use Rattle.r10_world.specs.Answering.{AnswersSo}
use Rattle.r10_world.proofs.OnTable.{close_so, next_so}
use Rattle.r10_refinement.specs.Quiet.{may_make}
use Rattle.r10_world.proofs.PowerLossInRuns.{survives_same}
use Rattle.r10_control.specs.Fronts.{Spares}
use Rattle.r10_medium.proofs.PowerLoss.{unchanged}
use Rattle.r10_world.proofs.world.answer.Goals as goal

pub returns-in-Next-clause-power_loss : goal.returns-in-Next-clause-power_loss
returns-in-Next-clause-power_loss g c = survives_same g.M.BlockMedium.disk c.args.recorder.now c.args.recorder.now _ c.next.result (ap may_make c.in-Next.is) refl refl

pub returns-in-Close-clause-power_loss : goal.returns-in-Close-clause-power_loss
returns-in-Close-clause-power_loss g c = survives_same g.M.BlockMedium.disk c.args.recorder.now c.args.recorder.now _ c.close.result (ap may_make c.in-Close.is) refl refl

pub returns-in-Next-clause-answers : goal.returns-in-Next-clause-answers
returns-in-Next-clause-answers g c =
    subst (λ (e : Event). AnswersSo g.M.BlockMedium.disk c.args.recorder.now c.args.cursors.now.slots e c.next.result c.args.recorder.now c.next.new.cursors.slots) (sym c.in-Next.is)
    (next_so g.M.BlockMedium.disk c.args.recorder.now c.args.cursors.now.slots c.next.new.cursors.slots c.in-Next.id c.next.result c.next.ensures.answers)

pub returns-in-Close-clause-answers : goal.returns-in-Close-clause-answers
returns-in-Close-clause-answers g c =
    subst (λ (e : Event). AnswersSo g.M.BlockMedium.disk c.args.recorder.now c.args.cursors.now.slots e c.close.result c.args.recorder.now c.close.new.cursors.slots) (sym c.in-Close.is)
    (close_so g.M.BlockMedium.disk c.args.recorder.now c.args.cursors.now.slots c.close.new.cursors.slots c.in-Close.id c.close.result c.close.ensures.answers)

pub returns-in-Next-clause-spares : goal.returns-in-Next-clause-spares
returns-in-Next-clause-spares g c =
    let old = c.args.recorder.now in
    let disk = g.M.BlockMedium.disk old.medium in
    subst (λ (e : Event). Spares old.kept disk e disk) (sym c.in-Next.is) (unchanged disk)

pub returns-in-Close-clause-spares : goal.returns-in-Close-clause-spares
returns-in-Close-clause-spares g c =
    let old = c.args.recorder.now in
    let disk = g.M.BlockMedium.disk old.medium in
    subst (λ (e : Event). Spares old.kept disk e disk) (sym c.in-Close.is) (unchanged disk)
