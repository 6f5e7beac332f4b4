use Rattle.std.proofs.Common.{ap, refl}
use Rattle.r10_machine.specs.declared.reply.Reply.{Reply}
use Rattle.r10_world.proofs.Answering.{have_given, matched, none_of_medium, or_either, refused_readied, takes_none, takes_parts, keeps_none}
use Rattle.r10_world.specs.Answering.{AnswersSo}
use Rattle.r10_control.specs.Taking.{IsStopped, LeftNone, most_of}
use Rattle.r10_control.specs.Refused.{nothing_lacks}
use Rattle.r10_machine.specs.Limits.{channel_ids}
use Rattle.r10_machine.specs.Machine.{rising}
use Rattle.r10_world.proofs.Taking.{telling_taken}
use Rattle.r10_body.specs.declared.refusal.Refusal.TheVariants.{Failed}
use Rattle.r10_control.specs.Checks.{recorder_checks, recorder_refusal}
use Rattle.r10_refinement.specs.KeptState.{Work}
use Rattle.r10_world.proofs.PowerLossInRuns.{alone_if_readied, stays_failed, survives_stop}
use Rattle.r10_world.proofs.control.stop.Goals as goal
use Rattle.r10_machine.specs.declared.event.Event.TheVariants as events
use Rattle.r10_machine.specs.declared.reply.Reply.TheVariants as replies

pub returns-clause-tells : goal.returns-clause-tells
returns-clause-tells g c =
    let call = c.stop_file in
    let a = c.args in
    telling_taken g.M.BlockMedium.disk a.recorder.now call.new.self c.recorders_calls_are_steps.ensures.moves _ _ _ _ events.Stop (λ said. replies.Stopped said) call.result c.stopped_reply.result call.ensures.does.takes call.ensures.does.shown call.ensures.does.config c.stopped_reply.ensures

pub returns-clause-power_loss : goal.returns-clause-power_loss
returns-clause-power_loss g c =
    let call = c.stop_file in
    let a = c.args in
    let disk = g.M.BlockMedium.disk in
    let old = a.recorder.now in
    let new = call.new.self in
    let fails = stays_failed disk old new (recorder_refusal old.kept events.Stop) Failed _ call.result (λ is. ap (λ (w : Work). recorder_refusal (record old.kept { work = w }) events.Stop) is) call.ensures.does.passed call.ensures.does.refused
    (λ r some refuses. alone_if_readied disk (recorder_refusal old.kept events.Stop) _ Failed old.kept new.kept old.medium new.medium r some refuses) in
    survives_stop disk old new call.result c.stopped_reply.result call.ensures.does.power_loss c.stopped_reply.ensures fails

pub returns-clause-answers : goal.returns-clause-answers
returns-clause-answers g c = λ slots.
    let call = c.stop_file in
    let a = c.args in
    let old = a.recorder.now in
    let new = call.new.self in
    let disk = g.M.BlockMedium.disk in
    let lacks = nothing_lacks in
    matched _ _ _ (λ (x : Reply). AnswersSo disk old slots events.Stop x new slots) (λ v. replies.Stopped v) call.result c.stopped_reply.result call.ensures.does.passed call.ensures.does.effect call.ensures.does.refused
    (λ v is passed effect. (passed, (effect, takes_parts (rising (channel_ids old.kept.config.channels)) (most_of old.kept.config.channels) IsStopped LeftNone old.kept (disk old.medium) events.Stop (λ v. replies.Stopped v) call.result new.kept (disk new.medium) old.lanes new.lanes call.ensures.does.takes v is, refl)))
    (λ r is refuses. refused_readied disk (recorder_refusal old.kept events.Stop) lacks old new slots events.Stop r refuses (none_of_medium (recorder_checks old.kept events.Stop) (refl, (refl, (refl, tt))))
    (takes_none call.result call.ensures.does.takes.parts old.lanes new.lanes r call.ensures.does.takes.none call.ensures.does.takes.taken is)
    (keeps_none call.result call.ensures.does.takes.parts old.kept new.kept (disk old.medium).blocks (disk new.medium).blocks r call.ensures.does.takes.none call.ensures.does.takes.own is) refl (or_either lacks) tt tt (λ left. left) tt (have_given call.ensures.does.takes.parts old.lanes new.lanes call.ensures.does.takes.taken))
    c.stopped_reply.ensures
