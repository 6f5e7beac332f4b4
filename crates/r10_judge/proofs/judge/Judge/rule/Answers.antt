use Rattle.std.proofs.Common.{◌∙◌, sym, subst, Some, true≢false}
use Rattle.r10_judge.specs.Judged.{BreaksRuleOfFileFirst}
use Rattle.r10_judge.proofs.Judging.{first_elsewhere, first_of_index}
use Rattle.r10_judge.proofs.judge.Judge.rule.Goals as goal

pub returns-then-self : goal.returns-then-self
returns-then-self c = λ packets p tracked fits sums reported tells body.
    first_elsewhere c.args.self.now.closed packets p c.rule-rule.result (λ index open_file. true≢false (sym c.if-self.true ∙ open_file)) (λ open_file. absurd (true≢false (sym c.if-self.true ∙ open_file)))
    (c.rule-rule.ensures packets p (record { tracked = tracked; fits = fits; checksums = sums; reported = reported; tells = tells; body_is = body }))

pub returns-then-not-is_index : goal.returns-then-not-is_index
returns-then-not-is_index c = λ packets p tracked fits sums reported tells body.
    first_elsewhere c.args.self.now.closed packets p c.rule-rule.result (λ index open_file. true≢false (sym index ∙ sym (c.is_index.ensures p tells.kind) ∙ c.if-not-is_index.true)) (λ open_file. sym (c.is_index.ensures p tells.kind) ∙ c.if-not-is_index.true)
    (c.rule-rule.ensures packets p (record { tracked = tracked; fits = fits; checksums = sums; reported = reported; tells = tells; body_is = body }))

pub returns : goal.returns
returns c = λ packets p tracked fits sums reported tells body.
    subst (λ n. BreaksRuleOfFileFirst c.args.self.now.closed packets p (Some n)) (sym c.index_rule.ensures)
    (first_of_index c.args.self.now.closed packets p c.rule-rule.result (sym (c.is_index.ensures p tells.kind) ∙ c.if-not-is_index.false) c.if-self.false
    (c.rule-rule.ensures packets p (record { tracked = tracked; fits = fits; checksums = sums; reported = reported; tells = tells; body_is = body })))
