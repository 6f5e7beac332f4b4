use Rattle.std.proofs.Common.{◌≡◌, true≢false, sym, ◌∙◌}
use Rattle.r10_shared.proofs.Settles.{settles_out}
use Rattle.r10_shared.proofs.ending.end_held.Goals as goal

pub returns-in-Ok-clause-settled : goal.returns-in-Ok-clause-settled
returns-in-Ok-clause-settled g c =
    rw (c.in-Ok.ensures.recorder.0, c.in-Ok.ensures.recorder.1)
    (settles_out g.M.BlockMedium.disk g.N.Rings.rings c.args.held.recorder (λ feed. feed.line) (λ feed. feed.tally) _ c.look.ensures.lanes (λ fails. true≢false (sym (c.has_failed.ensures.1 fails) ∙ c.if-has_failed.false)) _ c.in-Ok.ensures.moved)

pub returns-in-Ok-clause-works : goal.returns-in-Ok-clause-works
returns-in-Ok-clause-works g c =
    rw c.in-Ok.ensures.recorder.0 (λ fails. true≢false (sym (c.has_failed.ensures.1 fails) ∙ c.if-has_failed.false))
