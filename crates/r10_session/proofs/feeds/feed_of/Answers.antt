use Rattle.std.proofs.Common.{◌==◌}
use Rattle.r10_session.proofs.Taking.{has_place}
use Rattle.r10_session.specs.declared.ends.Sender.{Sender}
use Rattle.r10_session.proofs.Taken.{fresh_left, named, names_left, others_left, unused}
use Rattle.r10_session.proofs.feeds.feed_of.Goals as goal

pub unreachable-requires : goal.unreachable-requires
unreachable-requires g c = has_place (λ (s : Sender). s.channel == c.args.channel) c.args.senders.now.items c.requires.there c.in-None.ensures.0

pub new-requires : goal.new-requires
new-requires g c = named c.args.channel c.in-Some.port c.args.senders.now.items _ c.in-Some.ensures g.N.Rings.rings c.requires.named

pub returns-clause-named : goal.returns-clause-named
returns-clause-named g c = names_left c.args.channel c.in-Some.port c.args.senders.now.items _ c.in-Some.ensures g.N.Rings.rings c.requires.named

pub returns-clause-others : goal.returns-clause-others
returns-clause-others g c = others_left c.args.channel c.in-Some.port c.args.senders.now.items _ c.in-Some.ensures

pub returns-clause-fresh : goal.returns-clause-fresh
returns-clause-fresh g c = fresh_left c.args.channel c.in-Some.port c.args.senders.now.items _ c.in-Some.ensures

pub returns-clause-unused : goal.returns-clause-unused
returns-clause-unused g c specs fresh = rw c.new.ensures.line (unused c.args.channel c.in-Some.port c.args.senders.now.items _ c.in-Some.ensures specs fresh)
