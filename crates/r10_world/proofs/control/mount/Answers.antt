use Rattle.std.proofs.Common.{ap, refl}
use Rattle.r10_machine.specs.declared.reply.Reply.{Reply}
use Rattle.r10_world.proofs.Answering.{matched, or_either, refused_call}
use Rattle.r10_world.specs.Answering.{AnswersSo}
use Rattle.r10_control.specs.Refused.{IsMountRefusal}
use Rattle.r10_world.proofs.CallsAsSteps.{telling}
use Rattle.r10_body.specs.declared.refusal.Refusal.TheVariants.{Failed}
use Rattle.r10_control.specs.Checks.{recorder_refusal}
use Rattle.r10_refinement.specs.KeptState.{Work}
use Rattle.r10_world.proofs.PowerLossInRuns.{alone_if, stays_failed, survives_by}
use Rattle.r10_world.proofs.control.mount.Goals as goal
use Rattle.r10_machine.specs.declared.event.Event.TheVariants as events
use Rattle.r10_machine.specs.declared.reply.Reply.TheVariants as replies

pub returns-clause-tells : goal.returns-clause-tells
returns-clause-tells g c =
    let call = c.mount in
    telling g.M.BlockMedium.disk c.args.recorder.now call.new.self c.recorders_calls_are_steps.ensures.moves events.Mount (λ _. replies.Done) call.result c.done.result call.ensures.does.steps call.ensures.does.shown call.ensures.does.lanes call.ensures.does.config c.done.ensures

pub returns-clause-power_loss : goal.returns-clause-power_loss
returns-clause-power_loss g c =
    let call = c.mount in
    let a = c.args in
    let disk = g.M.BlockMedium.disk in
    let old = a.recorder.now in
    let new = call.new.self in
    let fails = stays_failed disk old new (recorder_refusal old.kept events.Mount) Failed _ call.result (λ is. ap (λ (w : Work). recorder_refusal (record old.kept { work = w }) events.Mount) is) call.ensures.does.passed call.ensures.does.refused
    (λ r some refuses. alone_if disk (recorder_refusal old.kept events.Mount) _ Failed old.kept new.kept old.medium new.medium r some refuses) in
    survives_by disk old new events.Mount (λ _. replies.Done) call.result c.done.result call.ensures.does.power_loss c.done.ensures fails

pub returns-clause-answers : goal.returns-clause-answers
returns-clause-answers g c = λ slots.
    let call = c.mount in
    let a = c.args in
    let old = a.recorder.now in
    let new = call.new.self in
    let disk = g.M.BlockMedium.disk in
    matched _ _ _ (λ (x : Reply). AnswersSo disk old slots events.Mount x new slots) (λ _. replies.Done) call.result c.done.result call.ensures.does.passed call.ensures.does.effect call.ensures.does.refused
    (λ v is passed effect. (passed, record { does_so = effect; own = call.ensures.does.owned; lanes = call.ensures.does.lanes; cursors = refl }))
    (λ r is refuses. refused_call disk (recorder_refusal old.kept events.Mount) (IsMountRefusal old.kept.config.directory (disk old.medium)) old new slots events.Mount r refuses call.ensures.does.lanes refl (or_either (IsMountRefusal old.kept.config.directory (disk old.medium))) (λ none fails. tt) (λ lacks. tt) (λ left. left) tt (λ lanes. lanes))
    c.done.ensures
