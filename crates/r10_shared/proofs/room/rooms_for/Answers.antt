use Rattle.std.proofs.Common.{◌≡◌, ◌==◌, false, List, sym, subst, ◌∙◌}
use Rattle.std.specs.List.{list_any}
use Rattle.r10_shared.specs.declared.report.FeedReport.{FeedReport}
use Rattle.r10_shared.proofs.Apart.{apart_more}
use Rattle.r10_shared.proofs.Matching.{one_matched}
use Rattle.r10_shared.proofs.room.rooms_for.Goals as goal

pub loop-place-preserved : goal.loop-place-preserved
loop-place-preserved g c = record {
  matched = rw c.push_reserved.ensures.items (one_matched _ _ c.loop-place.place c.loop-place.reports.items c.index-feeds-place.result c.in_ok-report.report c.loop-place.invariant.matched c.loop-place-test.true c.index-feeds-place.is c.in_ok-report.ensures);
  apart = rw c.push_reserved.ensures.items (apart_more (λ (report : FeedReport). report.channel) c.loop-place.reports.items c.in_ok-report.report c.loop-place.invariant.apart
      (subst (λ (l : List FeedReport). list_any (λ (report : FeedReport). report.channel == c.in_ok-report.report.channel) l ≡ false) c.deref.ensures.value (sym c.has_channel.ensures ∙ c.if-has_channel.false)));
  room = c.push_reserved.ensures.capacity ∙ c.loop-place.invariant.room;
}
