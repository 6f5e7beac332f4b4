use Rattle.std.proofs.Common.{[], ◌∷◌, refl, arith}
use Rattle.r10_world.proofs.Going.{begun, run_more}
use Rattle.r10_world.proofs.PowerLossInRuns.{begun_safely, run_more_safely}
use Rattle.r10_world.proofs.running.run_one.Goals as goal

pub returns-clause-run : goal.returns-clause-run
returns-clause-run g c =
    let disk = g.M.BlockMedium.disk in let old = c.args.world.now in
    run_more disk old old c.give.new.self (c.args.event ∷ []) 0 0 c.args.event c.give.result [] (c.give.result ∷ []) c.runs_join.ensures (omega arith) refl (omega arith) refl
    (begun disk old 0 [] refl) c.give.ensures.tells

pub returns-clause-answers : goal.returns-clause-answers
returns-clause-answers g c = (c.give.new.self, record { answer = c.give.ensures.answers; spares = c.give.ensures.spares }, refl)

pub returns-clause-power_loss : goal.returns-clause-power_loss
returns-clause-power_loss g c =
    let disk = g.M.BlockMedium.disk in let old = c.args.world.now in
    run_more_safely disk old old c.give.new.self (c.args.event ∷ []) 0 0 c.args.event c.give.result [] (c.give.result ∷ []) c.runs_join.ensures (omega arith) refl (omega arith) refl
    (begun_safely disk old 0 [] refl) c.give.ensures.tells c.give.ensures.power_loss
