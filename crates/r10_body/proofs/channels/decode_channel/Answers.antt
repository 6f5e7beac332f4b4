use Rattle.std.proofs.Common.{◌≡◌, map, ap, sym, ◌∙◌}
use Rattle.r10_count.specs.declared.reading.Reading.TheVariants.{Strict}
use Rattle.r10_body.proofs.Says.{kind_says, told_by_kind}
use Rattle.r10_body.proofs.channels.decode_channel.Goals as goal

pub returns-in_ok-messages-in-Strict-clause-found : goal.returns-in_ok-messages-in-Strict-clause-found
returns-in_ok-messages-in-Strict-clause-found g c =
    let found = rw c.in-Strict.is at c.in_ok-entries.ensures.found in
    kind_says g.E.BodyEntry.form g.E.ChannelEntry.channel c.setting_in-setting.result c.args.counter c.origin-origin.result c.in-Strict.entries c.args.body.now _ g.met.E.ChannelEntry.is_kind c.origin-origin.ensures found
    (c.in_ok-messages-in-Strict.ensures {u = tt} ∙ ap (map g.E.ChannelEntry.channel.said) c.into_vec.ensures)

pub returns-in_ok-messages-in-Strict-clause-only : goal.returns-in_ok-messages-in-Strict-clause-only
returns-in_ok-messages-in-Strict-clause-only g c = λ messages says.
    let reported = told_by_kind g.E.BodyEntry.form g.E.ChannelEntry.channel c.setting_in-setting.result c.args.counter c.origin-origin.result c.args.body.now messages g.met.E.ChannelEntry.is_kind c.origin-origin.ensures c.setting_in-setting.ensures says in
    let only = rw c.in-Strict.is at (c.in_ok-entries.ensures.only reported.0 reported.1) in
    let same : c.in-Strict.entries ≡ reported.0 = cc in
    ap (λ ms. Strict ms) (c.in_ok-messages-in-Strict.ensures {u = tt} ∙ ap (map g.E.ChannelEntry.channel.said) (c.into_vec.ensures ∙ same) ∙ sym reported.2)

pub returns-in-Lenient-clause-found : goal.returns-in-Lenient-clause-found
returns-in-Lenient-clause-found g c =
    let found = rw c.in-Lenient.is at c.in_ok-entries.ensures.found in (
      (g.met.E.ChannelEntry.is_kind.foreign c.args.body.now).0 found.0,
      λ messages says.
          let reported = told_by_kind g.E.BodyEntry.form g.E.ChannelEntry.channel c.setting_in-setting.result c.args.counter c.origin-origin.result c.args.body.now messages g.met.E.ChannelEntry.is_kind c.origin-origin.ensures c.setting_in-setting.ensures says in
          found.1 reported.0 reported.1,
    )

pub returns-in-Lenient-clause-only : goal.returns-in-Lenient-clause-only
returns-in-Lenient-clause-only g c = λ messages says.
    let reported = told_by_kind g.E.BodyEntry.form g.E.ChannelEntry.channel c.setting_in-setting.result c.args.counter c.origin-origin.result c.args.body.now messages g.met.E.ChannelEntry.is_kind c.origin-origin.ensures c.setting_in-setting.ensures says in
    let only = rw c.in-Lenient.is at (c.in_ok-entries.ensures.only reported.0 reported.1) in absurd cc

pub returns-in-Neither-clause-only : goal.returns-in-Neither-clause-only
returns-in-Neither-clause-only g c = λ messages says.
    let reported = told_by_kind g.E.BodyEntry.form g.E.ChannelEntry.channel c.setting_in-setting.result c.args.counter c.origin-origin.result c.args.body.now messages g.met.E.ChannelEntry.is_kind c.origin-origin.ensures c.setting_in-setting.ensures says in
    let only = rw c.in-Neither.is at (c.in_ok-entries.ensures.only reported.0 reported.1) in absurd cc
