use Rattle.std.proofs.Common.{◌≡◌, ◌==◌, false, List, sym, subst, ◌∙◌}
use Rattle.std.specs.List.{list_any}
use Rattle.r10_script.specs.declared.session.FeedTable.{FeedTable}
use Rattle.toml.specs.View.{table_view}
use Rattle.r10_script.specs.Session.{IsFeed}
use Rattle.r10_script.proofs.Asks.{asks_more}
use Rattle.r10_script.proofs.Apart.{apart_more}
use Rattle.r10_script.proofs.session.feeds_of.Goals as goal

pub loop-value-preserved : goal.loop-value-preserved
loop-value-preserved c =
    let feed = c.in_ok-feed.feed in
    rw c.in_ok-push.ensures.items (
      asks_more (IsFeed c.args.channels.now) c.in_ok-value-items.value-items.now c.loop-value.value-index c.value-item.result c.loop-value.feeds.items feed (table_view c.in_ok-fields.fields.table.now)
          c.loop-value-test.true c.value-item.is c.in_ok-fields.ensures c.in_ok-feed.ensures c.loop-value.invariant.0,
      apart_more c.loop-value.feeds.items feed c.loop-value.invariant.1 (subst (λ (l : List FeedTable). list_any (λ (f : FeedTable). f.channel == feed.channel) l ≡ false) c.deref.ensures.value (sym c.has_channel_of.ensures ∙ c.if-has_channel_of.false)),
    )
