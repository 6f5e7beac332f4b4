use Rattle.std.proofs.Common.{sym}
use Rattle.r10_gauge.proofs.watch.Watch.glance.Goals as goal

pub invariant_of-pass : goal.invariant_of-pass
invariant_of-pass g c = (sym c.look-words.ensures.saw.2, c.look-words.ensures.saw.4, c.look-words.ensures.saw.3)
