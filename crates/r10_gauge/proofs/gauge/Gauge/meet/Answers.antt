use Rattle.std.proofs.Common.{ap, ◌∙◌}
use Rattle.r10_gauge.proofs.gauge.Gauge.meet.Goals as goal

pub compare-requires-clause-writes : goal.compare-requires-clause-writes
compare-requires-clause-writes g c = ap (λ v. v.writes) c.absorb.ensures.1 ∙ ap (λ v. v.writes) c.self.invariant.1
