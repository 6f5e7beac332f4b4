use Rattle.std.proofs.Common.{drop, subst, take, vec_len}
use Rattle.r10_world.specs.Answering.{AnswersEach}
use Rattle.r10_world.specs.State.{WorldState}
use Rattle.r10_world.specs.PowerLoss.{Recovers, RunsSafely}
use Rattle.r10_world.proofs.whole.run_over_any_medium.Goals as goal

pub returns-in-Ok-run-clause-answers : goal.returns-in-Ok-run-clause-answers
returns-in-Ok-run-clause-answers g c =
    let disk = g.M.BlockMedium.disk in
    let es = take c.in-Ok-run.done c.args.events.now in
    let rs = drop (vec_len c.args.replies.now) c.run.new.replies.items in
    subst (λ (w : WorldState _). AnswersEach disk w es rs c.run.new.world) c.in-Ok.ensures.begins c.in-Ok-run.ensures.answers

pub returns-in-Ok-run-clause-power_loss : goal.returns-in-Ok-run-clause-power_loss
returns-in-Ok-run-clause-power_loss g c =
    let disk = g.M.BlockMedium.disk in
    let es = take c.in-Ok-run.done c.args.events.now in
    let rs = drop (vec_len c.args.replies.now) c.run.new.replies.items in
    subst (λ (w : WorldState _). RunsSafely disk w es rs c.run.new.world) c.in-Ok.ensures.begins c.in-Ok-run.ensures.power_loss

pub returns-in-Ok-run-clause-recovers : goal.returns-in-Ok-run-clause-recovers
returns-in-Ok-run-clause-recovers g c = λ files says.
    let disk = g.M.BlockMedium.disk in
    subst (λ (w : WorldState _). Recovers disk c.args.settings (disk c.args.medium) files w) c.in-Ok.ensures.begins (c.in-Ok.ensures.recovers files says)
