use Rattle.std.proofs.Common.{IsTrue, refl, subst, sym, ◌∙◌}
use Rattle.std.specs.Prelude.{◌↔◌, Option, IfSome, true}
use Rattle.r10_indexbody.specs.declared.loss.LossBody.{LossBody}
use Rattle.r10_body.specs.Faults.{IsFollowedByFlagged}
use Rattle.r10_judge.proofs.judge.Judge.is_answered.Goals as goal

pub returns-in-Some : goal.returns-in-Some
returns-in-Some c = λ packets tracked.
    subst (λ (o : Option LossBody). IsTrue c.answers.result ↔ IfSome o (λ loss. IsFollowedByFlagged loss c.args.rest.now)) (sym c.in-Some.is ∙ c.report.ensures packets tracked) c.answers.ensures

pub returns-in-None : goal.returns-in-None
returns-in-None c = λ packets tracked.
    subst (λ (o : Option LossBody). IsTrue true ↔ IfSome o (λ loss. IsFollowedByFlagged loss c.args.rest.now)) (sym c.in-None.is ∙ c.report.ensures packets tracked) (λ _. tt, λ _. refl)
