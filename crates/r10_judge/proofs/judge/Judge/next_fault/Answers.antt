use Rattle.std.proofs.Common.{◌∙◌, ◌++◌, length, ap, sym, subst, true≢false}
use Rattle.r10_body.specs.Faults.{IsAtFault}
use Rattle.r10_packet_rules.specs.declared.file.FirstFault.{FirstFault}
use Rattle.r10_judge.proofs.Ending.{fault_at_fault, unanswered_at_fault}
use Rattle.r10_judge.proofs.judge.Judge.next_fault.Goals as goal

pub returns-then-not-answered : goal.returns-then-not-answered
returns-then-not-answered c = λ before rest goes some has tells.
    let closed = c.args.self.now.closed in
    subst (λ (at : FirstFault). IsAtFault (before ++ rest) closed at.offset at.fault) (sym (c.unanswered.ensures goes.packets goes.tracked))
    (unanswered_at_fault closed c.args.self.now.tracks before rest goes (λ is. true≢false (sym ((tells goes.packets goes.tracked).1 is) ∙ c.if-not-answered.true)))

pub returns : goal.returns
returns c = λ before rest goes some has tells.
    let closed = c.args.self.now.closed in
    subst (λ offset. IsAtFault (before ++ rest) closed offset c.args.fault) (ap length goes.bytes_are ∙ sym (c.bytes-offset.ensures goes.packets goes.tracked))
    (fault_at_fault closed c.args.self.now.tracks before rest c.args.fault goes some has ((tells goes.packets goes.tracked).0 c.if-not-answered.false))
