use Rattle.r10_session.proofs.Putting.{put_together}
use Rattle.r10_session.proofs.Reading.{by_cursors}
use Rattle.r10_session.proofs.running.run_between.Goals as goal

pub returns : goal.returns
returns g c =
    let specs = c.args.gauged.recorder.kept.config.channels in
    let feeds = c.in_ok-report.ensures.feeds specs c.requires.fresh in
    put_together c.settle.result specs _ _ _ c.in_ok-report.report.recorder.kept _ feeds.0 _ _ _ _ _ (rw (c.as_slice.ensures.value, c.as_slice-2.ensures.value) at c.in_ok-replies.ensures) feeds.1
    feeds.2 (by_cursors _ _ _ c.in_ok-players.ensures.cursors c.in_ok-report.ensures.readers) c.settle.ensures.replies
    c.settle.ensures.feeds (rw (c.as_slice-3.ensures.value) at c.settle.ensures.readers) c.settle.ensures.audited c.settle.ensures.medium
