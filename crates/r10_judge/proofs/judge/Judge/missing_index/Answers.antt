use Rattle.std.proofs.Common.{◌∙◌, sym, refl, true≢false}
use Rattle.r10_body.specs.Faults as broken_rules
use Rattle.r10_body.proofs.Indexes.{not_closed, whole_closed}
use Rattle.r10_judge.proofs.judge.Judge.missing_index.Goals as goal

pub returns-then-not-self : goal.returns-then-not-self
returns-then-not-self c = λ bytes goes some.
    (some, not_closed goes.packets (goes.keep.unclosed c.if-not-self.true) ∙ sym c.if-not-self.true, (λ open_end. goes.keep.unclosed c.if-not-self.true))

pub returns-then-has_whole_index : goal.returns-then-has_whole_index
returns-then-has_whole_index c = λ bytes goes some.
    let whole = sym (c.has_whole_index.ensures goes.packets goes.tracked) ∙ c.if-has_whole_index.true in
    (some, whole_closed goes.packets whole ∙ sym c.if-not-self.false, (λ open_end. absurd (true≢false (sym whole ∙ open_end))))

pub returns : goal.returns
returns c = λ bytes goes some. broken_rules.no_index refl some c.if-not-self.false (sym (c.has_whole_index.ensures goes.packets goes.tracked) ∙ c.if-has_whole_index.false)
