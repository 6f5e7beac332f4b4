use Rattle.std.proofs.Common.{ap, sym, ◌∙◌}
use Rattle.r10_body.proofs.Says.{body_of_kind, body_only_kind}
use Rattle.r10_packet_rules.specs.Tally.{tally_of}
use Rattle.r10_packet_rules.proofs.Contents.{channel_data}
use Rattle.r10_packet_rules.proofs.channels.read_channel.Goals as goal

pub returns-in_default-clause-none : goal.returns-in_default-clause-none
returns-in_default-clause-none g c = λ content is.
    let only = body_only_kind g.E.BodyEntry.form g.E.ChannelEntry.channel c.args.header.now.data_type c.setting_in-setting.result c.args.header.now.counter c.origin-origin.result content c.args.body.now
    g.met.E.ChannelEntry.is_kind c.requires.reported c.origin-origin.ensures c.setting_in-setting.ensures is in
    c.in_default.ensures.none only.0 only.1

pub returns-clause-found : goal.returns-clause-found
returns-clause-found g c =
    let k = g.E.ChannelEntry.channel in
    let law = g.met.E.ChannelEntry.is_kind in
    let found = c.in-Some.ensures.found in
    let content = k.content c.setting_in-setting.result found.0 in
    let is = body_of_kind g.E.BodyEntry.form k c.args.header.now.data_type c.setting_in-setting.result c.args.header.now.counter c.origin-origin.result found.0 c.args.body.now law c.requires.reported c.origin-origin.ensures found.1 in (
      content,
      is,
      c.facts_of.ensures content (sym (channel_data k.kind content (is.type_is ∙ c.requires.reported))) (found.2 ∙ ap tally_of (sym (law.messages c.setting_in-setting.result c.args.header.now.counter found.0))),
    )
