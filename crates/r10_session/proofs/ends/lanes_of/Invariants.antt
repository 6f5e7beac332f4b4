use Rattle.r10_session.proofs.Pairing.{PairedTo}
use Rattle.r10_session.proofs.ends.lanes_of.Given as goal

-- the channels so far have their lanes
abbrev pub invariant-loop-place : goal.invariant-loop-place
invariant-loop-place l = PairedTo l.fn.channels l.place l.senders.items l.outlets.items
