use Rattle.std.proofs.Common.{◌≡◌}
use Rattle.r10_shared.proofs.Pumping.{HasPumped}
use Rattle.r10_shared.proofs.rounds.pump_each.Given as goal

abbrev pub invariant-loop-place : goal.invariant-loop-place
invariant-loop-place g l = HasPumped g.H.Recording.asked l.fn.held l.held l.place l.turn × (l.channels ≡ g.H.Recording.number l.fn.held) × (g.H.Recording.number l.held ≡ g.H.Recording.number l.fn.held)
