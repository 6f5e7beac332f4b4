use Rattle.std.proofs.Common.{sym, subst, ◌∙◌}
use Rattle.r10_body.specs.Foreign.{IsForeignPacket}
use Rattle.r10_judge.proofs.Judging.{still_broken, whole_first}
use Rattle.r10_judge.proofs.judge.Judge.take.Goals as goal

pub returns-then-is_broken-clause-taken : goal.returns-then-is_broken-clause-taken
returns-then-is_broken-clause-taken c = λ before stands foreign short.
    still_broken c.args.self.now.broken c.args.self.now.closed c.args.self.now.tracks before c.args.packet.now (sym c.is_broken.ensures ∙ c.if-is_broken.true) stands

pub returns-clause-taken : goal.returns-clause-taken
returns-clause-taken c = λ before stands foreign short.
    c.take_read.ensures.taken before stands foreign (c.read_checked-reading.ensures (subst IsForeignPacket (sym (whole_first c.args.packet.now foreign)) foreign)) short
