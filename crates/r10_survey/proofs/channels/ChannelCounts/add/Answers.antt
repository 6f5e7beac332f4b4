use Rattle.std.proofs.Common.{subst, sym, ap}
use Rattle.std.specs.Prelude.{Option}
use Rattle.r10_packet.specs.declared.header.Header.{Header}
use Rattle.r10_body.proofs.Outcomes.{of_ok}
use Rattle.r10_survey.specs.Counts.{IsCountOfChannel}
use Rattle.r10_survey.specs.declared.channel.ChannelCount.{ChannelCount}
use Rattle.r10_survey.proofs.Counting.{are_counts}
use Rattle.r10_survey.proofs.channels.ChannelCounts.add.Goals as goal

pub returns : goal.returns
returns c = λ packets p counts seen.
    let updates = of_ok _ c.insert.result (c.insert.ensures.succeeds c.requires) c.insert.ensures.updates in
    let channel = c.args.seen.now.header.channel in
    let found : IsCountOfChannel packets channel c.find.result = subst (λ (o : Option ChannelCount). IsCountOfChannel packets channel o) (sym c.find.ensures) (counts channel) in
    are_counts channel packets p _ c.args.self.now.known c.insert.new.self updates.0 (ap (λ (h : Header). h.channel) seen.header) counts (c.count_with-count.ensures packets p found seen)
