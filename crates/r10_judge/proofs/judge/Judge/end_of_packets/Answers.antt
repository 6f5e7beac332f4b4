use Rattle.std.proofs.Common.{◌∙◌, length, sym, subst, ap}
use Rattle.std.specs.Prelude.{Option, is_some}
use Rattle.r10_indexbody.specs.declared.loss.LossBody.{LossBody}
use Rattle.r10_body.specs.Faults.{IsAtFault}
use Rattle.r10_packet_rules.specs.declared.file.FirstFault.{FirstFault}
use Rattle.r10_judge.specs.Judged.{MayMiss}
use Rattle.r10_judge.proofs.Ending.{missing_at_fault, nothing_missing, unanswered_at_end}
use Rattle.r10_judge.proofs.Judging.{no_some}
use Rattle.r10_judge.proofs.judge.Judge.end_of_packets.Goals as goal

pub returns-then-is_some : goal.returns-then-is_some
returns-then-is_some c = λ bytes goes.
    let closed = c.args.self.now.closed in
    subst (λ (at : FirstFault). IsAtFault bytes closed at.offset at.fault) (sym (c.unanswered.ensures goes.packets goes.tracked))
    (unanswered_at_end closed c.args.self.now.tracks bytes goes (sym (ap (λ (o : Option LossBody). is_some o) (c.report.ensures goes.packets goes.tracked)) ∙ sym c.is_some.ensures ∙ c.if-is_some.true))

pub returns-in-Some : goal.returns-in-Some
returns-in-Some c = λ bytes goes.
    let closed = c.args.self.now.closed in
    subst (λ offset. IsAtFault bytes closed offset c.in-Some.fault) (ap length goes.bytes_are ∙ sym (c.bytes-offset.ensures goes.packets goes.tracked))
    (missing_at_fault closed c.args.self.now.tracks bytes c.in-Some.fault goes (no_some c.report.result _ (sym c.is_some.ensures ∙ c.if-is_some.false) (c.report.ensures goes.packets goes.tracked))
    (subst (λ o. MayMiss closed goes.packets o) c.in-Some.is (c.missing.ensures bytes goes)))

pub returns-in-None : goal.returns-in-None
returns-in-None c = λ bytes goes.
    nothing_missing c.args.self.now.closed c.args.self.now.tracks bytes goes (no_some c.report.result _ (sym c.is_some.ensures ∙ c.if-is_some.false) (c.report.ensures goes.packets goes.tracked))
    (subst (λ o. MayMiss c.args.self.now.closed goes.packets o) c.in-None.is (c.missing.ensures bytes goes))
