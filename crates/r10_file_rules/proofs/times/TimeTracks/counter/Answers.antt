use Rattle.std.proofs.Common.{refl, sym, ap, ◌∙◌}
use Rattle.std.specs.Prelude.{None}
use Rattle.r10_file_rules.proofs.OnTimes.{marked, count_of}
use Rattle.r10_file_rules.proofs.times.TimeTracks.counter.Goals as goal

pub returns-in-Some-clause-reported : goal.returns-in-Some-clause-reported
returns-in-Some-clause-reported c = λ packets times. c.get.ensures.value ∙ ap count_of (sym c.in-Some.is ∙ times.last) ∙ sym (marked 0 None packets refl)

pub returns-in-None-clause-reported : goal.returns-in-None-clause-reported
returns-in-None-clause-reported c = λ packets times. ap count_of (sym c.in-None.is ∙ times.last) ∙ sym (marked 0 None packets refl)
