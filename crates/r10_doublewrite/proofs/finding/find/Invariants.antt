use Rattle.std.proofs.Common.{take, MatchOption}
use Rattle.r10_sector.specs.Held.{IsAmong}
use Rattle.r10_doublewrite.specs.Last.{IsLast}
use Rattle.r10_doublewrite.proofs.finding.find.Given as goal

-- the last one of those looked at
abbrev pub invariant-loop-i : goal.invariant-loop-i
invariant-loop-i l = MatchOption l.found (IsAmong l.per (take l.i l.firsts) l.n → ⊥) (λ k. IsLast l.per (take l.i l.firsts) l.n k)
