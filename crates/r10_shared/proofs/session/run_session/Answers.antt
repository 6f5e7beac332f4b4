use Rattle.std.proofs.lemmas.Result.{IfOk-weaker}
use Rattle.r10_shared.proofs.Turns.{run_whole}
use Rattle.r10_shared.proofs.session.run_session.Goals as goal

pub returns-clause-whole : goal.returns-clause-whole
returns-clause-whole g c = IfOk-weaker c.run_session_until.result _ _ (λ session ran i d within. run_whole (g.G.Gate.answers c.args.gate.now i) _ _ _ _ _ (ran i d within)) c.run_session_until.ensures.until
