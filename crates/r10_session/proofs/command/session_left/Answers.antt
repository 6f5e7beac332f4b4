use Rattle.std.proofs.Common.{◌∙◌, List, ap, map}
use Rattle.r10_script.specs.declared.session.FeedTable.{FeedTable}
use Rattle.r10_session.specs.Losses.{has_losses}
use Rattle.r10_session.proofs.Scripts.{all_channels, all_orders}
use Rattle.r10_session.proofs.WhatScriptsGive.{came}
use Rattle.r10_session.proofs.command.session_left.Goals as goal

pub run_script-requires-clause-steps : goal.run_script-requires-clause-steps
run_script-requires-clause-steps g c κs within =
    let spelled = c.in_ok-script.ensures.spelled in
    all_orders c.in_ok-script.script.settings.channels _ _ spelled.steps

pub run_script-requires-clause-orders : goal.run_script-requires-clause-orders
run_script-requires-clause-orders g c κs within =
    let spelled = c.in_ok-script.ensures.spelled in
    all_orders c.in_ok-script.script.settings.channels _ _ spelled.orders

pub run_script-requires-clause-feeds : goal.run_script-requires-clause-feeds
run_script-requires-clause-feeds g c κs within =
    let spelled = c.in_ok-script.ensures.spelled in
    all_channels c.in_ok-script.script.settings.channels _ _ spelled.feeds

pub returns-in-Ok : goal.returns-in-Ok
returns-in-Ok g c =
    let whole = c.in_ok-text.ensures.whole in
    let spelled = c.in_ok-script.ensures.spelled in
    came _ _ _ c.in_ok-script.script c.in_ok-asked.asked.items _ c.in-Ok.left.ended whole c.as_slice.ensures.value spelled c.in-Ok.ensures (c.in_ok-asked.ensures ∙ ap (λ (feeds : List FeedTable). map has_losses feeds) c.as_slice-2.ensures.value)
