use Rattle.std.proofs.Common.{refl, subst, sym}
use Rattle.r10_count.specs.Checks.{first_broken}
use Rattle.r10_machine.specs.declared.reply.Reply.{Reply}
use Rattle.r10_world.proofs.Answering.{refused_check, told_either}
use Rattle.r10_world.specs.Answering.{AnswersSo}
use Rattle.r10_machine.specs.Checks.{channel_checks}
use Rattle.r10_machine.specs.Machine.{lane_in}
use Rattle.r10_world.proofs.CallsAsSteps.{telling_with}
use Rattle.r10_world.proofs.PowerLossInRuns.{survives_same}
use Rattle.r10_medium.proofs.PowerLoss.{unchanged}
use Rattle.r10_medium.specs.Disk.{Unchanged}
use Rattle.r10_world.proofs.control.lose.Goals as goal
use Rattle.r10_machine.specs.declared.event.Event.TheVariants as events
use Rattle.r10_machine.specs.declared.reply.Reply.TheVariants as replies

pub returns-clause-tells : goal.returns-clause-tells
returns-clause-tells g c =
    let call = c.lose in
    let a = c.args in
    telling_with g.M.BlockMedium.disk a.recorder.now call.new.self c.recorders_calls_are_steps.ensures.stays (events.Lose a.channel a.lost) (λ _. replies.Done) call.result c.done.result call.ensures.steps call.ensures.kept call.ensures.medium c.done.ensures

pub returns-clause-power_loss : goal.returns-clause-power_loss
returns-clause-power_loss g c =
    let call = c.lose in
    let a = c.args in
    survives_same g.M.BlockMedium.disk a.recorder.now call.new.self (events.Lose a.channel a.lost) c.done.result refl call.ensures.kept call.ensures.medium

pub returns-clause-answers : goal.returns-clause-answers
returns-clause-answers g c = λ slots.
    let call = c.lose in
    let a = c.args in
    let old = a.recorder.now in
    let new = call.new.self in
    let disk = g.M.BlockMedium.disk in
    let event = events.Lose a.channel a.lost in
    told_either _ _ (λ (x : Reply). AnswersSo disk old slots event x new slots) (λ _. replies.Done) call.result c.done.result call.ensures.loses
    (λ v does. (does.0, (does.1, call.ensures.kept, call.ensures.medium, refl)))
    (λ r does. refused_check disk (first_broken (channel_checks (lane_in a.channel old.lanes))) old new slots slots event r does.0 call.ensures.kept call.ensures.medium does.1 refl)
    c.done.ensures

pub returns-clause-spares : goal.returns-clause-spares
returns-clause-spares g c =
    let disk = g.M.BlockMedium.disk in
    let old = c.args.recorder.now in
    subst (λ (m : _). Unchanged (disk old.medium) (disk m)) (sym c.lose.ensures.medium) (unchanged (disk old.medium))
