use Rattle.std.proofs.Common.{refl, sym, subst}
use Rattle.std.specs.Prelude.{Option}
use Rattle.r10_survey.specs.Counts.{IsCountOfChannel}
use Rattle.r10_survey.specs.declared.channel.ChannelCount.{ChannelCount}
use Rattle.r10_survey.proofs.Taking.{packet_on}
use Rattle.r10_survey.proofs.track.Track.take_packet.Goals as goal

pub returns-clause-taken : goal.returns-clause-taken
returns-clause-taken c = λ bytes rest last so_far found.
    packet_on c.args.self.now _ bytes rest last c.args.seen.now refl
    (λ packets p counts seen. c.add.ensures packets p (λ channel. subst (λ (o : Option ChannelCount). IsCountOfChannel packets channel o) (sym (c.ready.ensures.same channel)) (counts channel)) seen)
    (λ parts p is. c.in_ok-add_packet.ensures parts p is) so_far found
