use Rattle.std.proofs.Common.{ap, length, sym, ◌∙◌}
use Rattle.r10_shared.proofs.Written.{as_many, at_gauge, have_read, whole_slice}
use Rattle.r10_shared.proofs.session.run_session_until.Goals as goal

pub run_all-requires-after_bounds : goal.run_all-requires-after_bounds
run_all-requires-after_bounds g c κs within = rw c.as_mut_slice-2.ensures.value (at_gauge _ _ c.unread-readings.ensures.players _ c.requires)

pub returns-clause-feeds : goal.returns-clause-feeds
returns-clause-feeds g c =
    let all = ap (λ l. length l) c.as_mut_slice.ensures.value in
    rw (whole_slice c.args.feeds.len c.run_all.new.feeds c.args.feeds.items (sym c.as_mut_slice.ensures.len ∙ all) (c.run_all.auto.feeds ∙ all))
    (c.run_all.auto.feeds ∙ all, rw c.as_mut_slice.ensures.value at c.run_all.ensures.feeds)

pub returns-clause-players : goal.returns-clause-players
returns-clause-players g c =
    let all = ap (λ l. length l) c.as_mut_slice-2.ensures.value in
    rw (whole_slice c.unread-readings.result.len c.run_all.new.readings c.unread-readings.result.items (sym c.as_mut_slice-2.ensures.len ∙ all) (c.run_all.auto.readings ∙ all)) (
      c.run_all.auto.readings ∙ all ∙ sym (as_many _ _ c.unread-readings.ensures.players),
      have_read _ _ c.unread-readings.ensures.players c.run_all.new.readings c.unread-readings.ensures.none (rw (sym c.as_mut_slice-2.ensures.value) c.run_all.ensures.readings),
    )
