use Rattle.std.proofs.Common.{ap, refl}
use Rattle.r10_machine.specs.declared.reply.Reply.{Reply}
use Rattle.r10_control.specs.Checks.{recorder_refusal}
use Rattle.r10_world.proofs.Answering.{failed_refuses, matched, or_memory, refused_call}
use Rattle.r10_world.specs.Answering.{AnswersSo}
use Rattle.r10_control.specs.Refused.{nothing_lacks}
use Rattle.r10_refinement.specs.KeptState.{Kept}
use Rattle.r10_world.proofs.CallsAsSteps.{keeps_same, telling}
use Rattle.r10_world.proofs.PowerLossInRuns.{survives_same}
use Rattle.r10_medium.proofs.PowerLoss.{unchanged}
use Rattle.r10_world.proofs.control.files.Goals as goal
use Rattle.r10_machine.specs.declared.event.Event.TheVariants as events
use Rattle.r10_machine.specs.declared.reply.Reply.TheVariants as replies

pub returns-clause-tells : goal.returns-clause-tells
returns-clause-tells g c =
    let call = c.files in
    let r = c.args.recorder.now in
    let medium = g.M.BlockMedium.disk r.medium in
    telling g.M.BlockMedium.disk r r c.recorders_calls_are_steps.ensures.moves events.Files (λ v. replies.Files v.items) call.result c.files_reply.result call.ensures.does.steps (keeps_same r.kept medium.blocks medium.failures) refl refl c.files_reply.ensures

pub returns-clause-power_loss : goal.returns-clause-power_loss
returns-clause-power_loss g c = survives_same g.M.BlockMedium.disk c.args.recorder.now c.args.recorder.now events.Files c.files_reply.result refl refl refl

pub returns-clause-answers : goal.returns-clause-answers
returns-clause-answers g c = λ slots.
    let call = c.files in
    let old = c.args.recorder.now in
    let disk = g.M.BlockMedium.disk in
    matched _ _ _ (λ (x : Reply). AnswersSo disk old slots events.Files x old slots) (λ infos. replies.Files infos.items) call.result c.files_reply.result call.ensures.does.passed call.ensures.reported call.ensures.does.refused
    (λ v is passed reported. (passed, (reported, refl, refl)))
    (λ r is refuses. refused_call disk (recorder_refusal old.kept events.Files) nothing_lacks old old slots events.Files r refuses refl refl (or_memory nothing_lacks) (λ none fails. absurd (failed_refuses old.kept.work none (ap (λ (k : Kept). k.work) fails)))
    (λ lacks. tt) (λ left. (left.0, refl)) tt (λ lanes. lanes))
    c.files_reply.ensures

pub returns-clause-spares : goal.returns-clause-spares
returns-clause-spares g c = unchanged (g.M.BlockMedium.disk c.args.recorder.now.medium)
