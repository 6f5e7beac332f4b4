use Rattle.std.proofs.Common.{refl, subst, sym}
use Rattle.r10_machine.specs.declared.reply.Reply.{Reply}
use Rattle.r10_world.proofs.Answering.{own_same, told_apart}
use Rattle.r10_world.specs.Answering.{AnswersSo}
use Rattle.r10_body.specs.declared.refusal.Refusal.{Refusal}
use Rattle.r10_medium.proofs.PowerLoss.{unchanged}
use Rattle.r10_world.proofs.CallsAsSteps.{telling_with}
use Rattle.r10_world.proofs.PowerLossInRuns.{survives_same}
use Rattle.r10_medium.proofs.PowerLoss.{unchanged}
use Rattle.r10_world.proofs.control.status.Goals as goal
use Rattle.r10_machine.specs.declared.event.Event.TheVariants as events
use Rattle.r10_machine.specs.declared.reply.Reply.TheVariants as replies

pub returns-clause-tells : goal.returns-clause-tells
returns-clause-tells g c =
    let call = c.status_with_lost in
    let r = c.args.recorder.now in
    telling_with g.M.BlockMedium.disk r r c.recorders_calls_are_steps.ensures.stays events.Status (λ v. replies.Status v) call.result c.status_reply.result call.ensures.steps refl refl c.status_reply.ensures

pub returns-clause-power_loss : goal.returns-clause-power_loss
returns-clause-power_loss g c = survives_same g.M.BlockMedium.disk c.args.recorder.now c.args.recorder.now events.Status c.status_reply.result refl refl refl

pub returns-clause-answers : goal.returns-clause-answers
returns-clause-answers g c = λ slots.
    let call = c.status_with_lost in
    let old = c.args.recorder.now in
    let disk = g.M.BlockMedium.disk in
    told_apart _ _ (λ (x : Reply). AnswersSo disk old slots events.Status x old slots) (λ status. replies.Status status) call.result c.status_reply.result call.ensures.reported call.ensures.refused
    (λ v reported. (refl, (reported, refl, refl)))
    (λ r lacks. subst (λ (q : Refusal). AnswersSo disk old slots events.Status (replies.Refused q) old slots) (sym lacks) (record { cause = tt; leaves = (refl, refl); own = own_same old.kept old.kept (disk old.medium).blocks (disk old.medium).blocks refl refl; lanes = refl; cursors = refl }))
    c.status_reply.ensures

pub returns-clause-spares : goal.returns-clause-spares
returns-clause-spares g c = unchanged (g.M.BlockMedium.disk c.args.recorder.now.medium)
