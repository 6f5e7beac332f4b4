use Rattle.std.proofs.Common.{IsTrue, subst}
use Rattle.std.specs.Prelude.{◌↔◌, Option, IfSome}
use Rattle.r10_indexbody.specs.declared.loss.LossBody.{LossBody}
use Rattle.r10_body.specs.Rules.{IsSoundReport}
use Rattle.r10_file_rules.proofs.reports.keeps_report.Goals as goal

pub returns : goal.returns
returns c = λ p kind. subst (λ (o : Option LossBody). IsTrue c.is_sound.result ↔ IfSome o IsSoundReport) (c.report_in.ensures p kind) c.is_sound.ensures
