use Rattle.std.proofs.Common.{codes}
use Rattle.toml.specs.View.{table_view}
use Rattle.r10_script.specs.Keys.{HasOnly, items_or_none_at}
use Rattle.r10_script.specs.Script.{AreScriptSettings, ItemsAsk}
use Rattle.r10_script.specs.Session.{AreOrders, IsFeed, IsReader, session_keys}
use Rattle.r10_script.proofs.session.session_of.Goals as goal

pub returns-clause-session : goal.returns-clause-session
returns-clause-session c =
    let top = table_view c.new-top.result.table.now in
    let known : HasOnly session_keys top = c.in_ok-only.ensures in
    let settings : AreScriptSettings top c.in_ok-settings.settings = c.in_ok-settings.ensures in
    let steps : AreOrders c.channels.result.now top (codes "step") c.in_ok-steps.steps.items = c.in_ok-steps.ensures in
    let feeds : ItemsAsk (IsFeed c.channels-2.result.now) (items_or_none_at top (codes "feed")) c.in_ok-feeds.feeds.items = c.in_ok-feeds.ensures.feeds in
    let orders : AreOrders c.channels-3.result.now top (codes "order") c.in_ok-orders.orders.items = c.in_ok-orders.ensures in
    let readers : ItemsAsk IsReader (items_or_none_at top (codes "reader")) c.in_ok-readers.readers.items = c.in_ok-readers.ensures in (
      table_view c.in-Ok.table,
      c.in-Ok.ensures.ok.1,
      rw (← c.new-top.ensures) known,
      rw (← c.new-top.ensures) settings,
      rw (← c.new-top.ensures, ← c.channels.ensures.value) steps,
      rw (← c.new-top.ensures, ← c.channels-2.ensures.value) feeds,
      rw (← c.new-top.ensures, ← c.channels-3.ensures.value) orders,
      rw (← c.new-top.ensures) readers,
    )
