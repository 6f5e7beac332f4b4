use Rattle.std.proofs.Common.{sym, ap, ◌∙◌}
use Rattle.std.specs.Prelude.{None}
use Rattle.r10_file_rules.specs.Kinds.{time_kind}
use Rattle.r10_file_rules.proofs.Alike.{no_time_kind}
use Rattle.r10_file_rules.proofs.OnTimes.{marks, time_is, time_same}
use Rattle.r10_file_rules.proofs.times.TimeTracks.last_with.Goals as goal

pub returns-in-Time : goal.returns-in-Time
returns-in-Time c = λ packets p last tells. ap (λ n. marks n c.in-Time.civil) tells.counter ∙ time_is None packets p c.in-Time.civil (sym c.in-Time.is ∙ tells.kind)

pub returns-in_default : goal.returns-in_default
returns-in_default c = λ packets p last tells. last ∙ time_same None packets p (sym (ap time_kind tells.kind) ∙ no_time_kind c.args.facts.now.kind c.in_default.not-Time)
