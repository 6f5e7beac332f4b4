use Rattle.std.proofs.Common.{◌∙◌, sym, true≢false}
use Rattle.r10_judge.proofs.Judging.{none_left, none_there}
use Rattle.r10_judge.proofs.judge.Judge.has_all_or_none.Goals as goal

pub returns-then-has_whole_index : goal.returns-then-has_whole_index
returns-then-has_whole_index c = λ packets tracked. (
  (λ is open_end. absurd (true≢false (sym c.if-has_whole_index.true ∙ c.has_whole_index.ensures packets tracked ∙ open_end))),
  (λ whole. c.if-has_whole_index.true),
)

pub returns-else-has_whole_index : goal.returns-else-has_whole_index
returns-else-has_whole_index c = λ packets tracked. (
  (λ none open_end. none_left c.has_index.result _ (c.has_index.ensures packets tracked) none),
  (λ whole. none_there c.has_index.result _ (c.has_index.ensures packets tracked) (whole (sym (c.has_whole_index.ensures packets tracked) ∙ c.if-has_whole_index.false))),
)
