use Rattle.std.proofs.Common.{◌∙◌, ◌++◌, take, ap}
use Rattle.std.proofs.lemmas.List.{get_or_default}
use Rattle.r10_session.specs.Text.{feed_lines}
use Rattle.r10_session.specs.declared.ended.FeedEnd.{FeedEnd}
use Rattle.r10_session.proofs.Numbered.{feed_at, same_part}
use Rattle.r10_session.proofs.text.feeds_text.Goals as goal

abbrev none : FeedEnd
none = record { channel = 0; accepted = 0; refused = 0; lost = 0; erased = 0; filed = 0; rest = 0 }

pub loop-number-preserved : goal.loop-number-preserved
loop-number-preserved c =
    let feeds = c.args.feeds.now in
    let asked = c.args.asked.now in
    let n = c.loop-number.number in
    let before = feed_lines asked 0 (take n feeds) in
    let same = same_part _ asked n _ _ c.is_asked.ensures (get_or_default feeds n _ none c.loop-number-test.true) in
    rw (feed_at asked feeds n none c.loop-number-test.true)
    (c.in_ok-push_str.ensures.bytes ∙ rw (c.loop-number.invariant) (ap (λ t. before ++ t) (c.deref.ensures ∙ c.in_ok-part.ensures ∙ same)))
