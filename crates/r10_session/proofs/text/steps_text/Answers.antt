use Rattle.std.proofs.Common.{◌∙◌, ◌+◌, ◌++◌, take, ap}
use Rattle.r10_session.specs.Text.{step_lines}
use Rattle.r10_text.specs.Replies.{reply_lines}
use Rattle.r10_session.proofs.Numbered.{reply_at}
use Rattle.r10_session.proofs.text.steps_text.Goals as goal

pub loop-place-preserved : goal.loop-place-preserved
loop-place-preserved c =
    let before = step_lines 0 (take c.loop-place.place c.args.replies.now) in
    rw (reply_at c.args.replies.now c.loop-place.place c.index-replies-place.result c.loop-place-test.true)
    (c.in_ok-push_str.ensures.bytes ∙ rw (c.loop-place.invariant) (ap (λ t. before ++ t) (c.deref.ensures ∙ c.in_ok-line.ensures ∙ ap (λ r. reply_lines (c.loop-place.place + 1) r) c.index-replies-place.is)))
