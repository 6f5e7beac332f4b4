use Rattle.std.proofs.Common.{◌≤◌, ◌∙◌, length, Option, is_some, ap, sym, arith, true≢false}
use Rattle.r10_indexbody.specs.declared.loss.LossBody.{LossBody}
use Rattle.r10_judge.proofs.Judging.{no_some}
use Rattle.r10_judge.proofs.judge.Judge.is_whole.Goals as goal

pub returns-then-packets-lt2 : goal.returns-then-packets-lt2
returns-then-packets-lt2 c = λ packets tracked. ((λ is. absurd (true≢false (sym is))), (λ whole. absurd (omega (arith, whole.0, c.packets.ensures packets tracked, c.if-packets-lt2.true))))

pub returns-then-is_some : goal.returns-then-is_some
returns-then-is_some c = λ packets tracked. (
  (λ is. absurd (true≢false (sym is))),
  (λ whole. absurd (true≢false (sym c.if-is_some.true ∙ c.is_some.ensures ∙ ap (λ (o : Option LossBody). is_some o) (c.report.ensures packets tracked ∙ whole.2)))),
)

pub returns : goal.returns
returns c = λ packets tracked.
    let two : 2 ≤ length packets = omega (arith, c.packets.ensures packets tracked, c.if-packets-lt2.false) in
    let index = c.has_all_or_none.ensures packets tracked in
    ((λ is. (two, index.0 is, no_some c.report.result _ (sym c.is_some.ensures ∙ c.if-is_some.false) (c.report.ensures packets tracked))), (λ whole. index.1 whole.1))
