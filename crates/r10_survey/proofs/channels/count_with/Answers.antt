use Rattle.std.proofs.Common.{List, ℕ, [], ◌∷◌, ◌++◌, subst, sym, ap}
use Rattle.std.specs.Prelude.{Option}
use Rattle.r10_packet.specs.declared.header.Header.{Header}
use Rattle.r10_survey.specs.Counts.{AreCountsOf, IsCountOfChannel, packets_on}
use Rattle.r10_survey.specs.declared.channel.ChannelCount.{ChannelCount}
use Rattle.r10_survey.proofs.Counting.{count_more}
use Rattle.r10_survey.proofs.channels.count_with.Goals as goal

pub returns-in-Some : goal.returns-in-Some
returns-in-Some c = λ packets p counts seen.
    let channel = c.args.seen.now.header.channel in
    let own = packets_on channel packets in
    let here = subst (λ (o : Option ChannelCount). IsCountOfChannel packets channel o) c.in-Some.is counts in
    count_more channel packets p _ (ap (λ (h : Header). h.channel) seen.header) (c.with.ensures own p here seen)

pub returns-in-None : goal.returns-in-None
returns-in-None c = λ packets p counts seen.
    let channel = c.args.seen.now.header.channel in
    let none = subst (λ (o : Option ChannelCount). IsCountOfChannel packets channel o) c.in-None.is counts in
    count_more channel packets p _ (ap (λ (h : Header). h.channel) seen.header) (subst (λ (own : List (List ℕ)). AreCountsOf (own ++ p ∷ []) c.of_first.result) (sym none) (c.of_first.ensures p seen))
