use Rattle.std.proofs.Common.{length}
use Rattle.r10_packet_rules.proofs.Scanned.{ScannedTo}
use Rattle.r10_packet_rules.proofs.scan.scan.Given as goal

abbrev pub invariant-loop-glimpse : goal.invariant-loop-glimpse
invariant-loop-glimpse g l = ScannedTo g.E.BodyEntry.form g.E.ChannelEntry.channel.said l.setting l.counter l.bytes l.entries l.cost l.first.count l.last l.greatest l.rise l.rest

abbrev pub decreases-loop-glimpse : goal.decreases-loop-glimpse
decreases-loop-glimpse g l = length l.rest
