use Rattle.std.proofs.Common.{◌≡◌, ◌∙◌, ◌<◌, ◌^◌, ◌++◌, inl, inr, List, ℕ, length, sym, subst, arith, OnOk, true≢false}
use Rattle.r10_body.specs.Faults.{IsReportAnswered}
use Rattle.r10_body.specs.Packets.{packet_bytes}
use Rattle.r10_packet_rules.proofs.Retelling.{facts_retold}
use Rattle.r10_packet_rules.proofs.Spelled.{framed}
use Rattle.r10_packet_rules.specs.Strict.{FindsPacket}
use Rattle.r10_packet_rules.specs.declared.strict.StrictReading.TheVariants.{Strict, Breaks}
use Rattle.r10_body.specs.Foreign.{IsForeignPacket}
use Rattle.r10_judge.specs.Judged.{KeepsRulesSoFar, TracksJudged}
use Rattle.r10_judge.proofs.Answering.{reads_retold, told_packet}
use Rattle.r10_judge.proofs.Ending.{breaks_less, breaks_more}
use Rattle.r10_judge.proofs.Judging.{at_none, not_some, still_broken, some_stands, stops, stops_at_report, its_bytes, whole_first}
use Rattle.r10_judge.proofs.judge.Judge.take_read.Goals as goal

pub returns-then-is_some-clause-taken : goal.returns-then-is_some-clause-taken
returns-then-is_some-clause-taken c = λ before stands foreign finds short.
    still_broken c.args.self.now.broken c.args.self.now.closed c.args.self.now.tracks before c.args.packet.now (sym c.is_some.ensures ∙ c.if-is_some.true) stands

pub returns-then-not-is_answered-clause-taken : goal.returns-then-not-is_answered-clause-taken
returns-then-not-is_answered-clause-taken c = λ before stands foreign finds short.
    let goes : KeepsRulesSoFar c.args.self.now.closed c.args.self.now.tracks before = at_none c.args.self.now.broken c.args.self.now.closed c.args.self.now.tracks before (not_some c.args.self.now.broken (sym c.is_some.ensures ∙ c.if-is_some.false)) stands in
    let none : IsReportAnswered goes.packets c.args.packet.now → ⊥ = λ answered. true≢false (sym ((c.is_answered.ensures goes.packets goes.tracked).1 answered) ∙ c.if-not-is_answered.true) in
    some_stands c.stop_at_report.new.self.broken _ c.args.self.now.closed c.stop_at_report.new.self.closed c.stop_at_report.new.self.tracks (before ++ c.args.packet.now) (c.stop_at_report.ensures.broken goes.packets goes.tracked) c.stop_at_report.ensures.closed
    (stops_at_report c.args.self.now.closed c.args.self.now.tracks before c.args.packet.now goes foreign none)

pub returns-in-Strict-clause-taken : goal.returns-in-Strict-clause-taken
returns-in-Strict-clause-taken c = λ before stands foreign finds short.
    let goes : KeepsRulesSoFar c.args.self.now.closed c.args.self.now.tracks before = at_none c.args.self.now.broken c.args.self.now.closed c.args.self.now.tracks before (not_some c.args.self.now.broken (sym c.is_some.ensures ∙ c.if-is_some.false)) stands in
    let found : FindsPacket c.args.packet.now (Strict c.in-Strict.facts) = subst (λ r. FindsPacket c.args.packet.now r) c.in-Strict.is finds in
    let p = found.0 in
    let reads = found.1 in
    let answered : IsReportAnswered goes.packets c.args.packet.now = (c.is_answered.ensures goes.packets goes.tracked).0 c.if-not-is_answered.false in
    let reported = told_packet goes.packets c.args.packet.now p goes.keep.strict reads answered in
    let q = reported.0 in
    let own = reads_retold c.args.packet.now p q reported.1.retold reported.1.fits reads in
    let is = framed c.args.packet.now q own in
    let same : c.args.packet.now ≡ packet_bytes q = its_bytes c.args.packet.now q foreign own in
    subst (λ (l : List ℕ). OnOk c.take_strict.result (TracksJudged c.take_strict.new.self (before ++ l))) (sym same)
    (c.take_strict.ensures.taken before q goes own.1 reported.1.reported (subst (λ (l : List ℕ). IsReportAnswered goes.packets l) same answered) (facts_retold c.in-Strict.facts p q reported.1.retold found.2)
    (c.body_of.ensures is.sound ∙ is.body_is) reported.1.fits (subst (λ (l : List ℕ). length (before ++ l) < 2 ^ 63) same short))

pub returns-in-Breaks-clause-taken : goal.returns-in-Breaks-clause-taken
returns-in-Breaks-clause-taken c = λ before stands foreign finds short.
    let goes : KeepsRulesSoFar c.args.self.now.closed c.args.self.now.tracks before = at_none c.args.self.now.broken c.args.self.now.closed c.args.self.now.tracks before (not_some c.args.self.now.broken (sym c.is_some.ensures ∙ c.if-is_some.false)) stands in
    let known = subst IsForeignPacket (sym (whole_first c.args.packet.now foreign)) foreign in
    let found : FindsPacket c.args.packet.now (Breaks c.in-Breaks.rule) = subst (λ r. FindsPacket c.args.packet.now r) c.in-Breaks.is finds in
    let first = found.1 known in
    some_stands c.stop.new.self.broken _ c.args.self.now.closed c.stop.new.self.closed c.stop.new.self.tracks (before ++ c.args.packet.now) (c.stop.ensures.broken goes.packets goes.tracked) c.stop.ensures.closed
    (stops c.args.self.now.closed c.args.self.now.tracks before c.args.packet.now c.in-Breaks.rule goes foreign ((c.is_answered.ensures goes.packets goes.tracked).0 c.if-not-is_answered.false)
    (λ later. breaks_more goes.packets c.args.packet.now later c.args.self.now.closed c.in-Breaks.rule foreign (omega (arith, first.early)) (first.broken goes.packets c.args.self.now.closed))
    (λ later m breaks. elim (breaks_less goes.packets c.args.packet.now later c.args.self.now.closed m foreign breaks) [
      | inl is ↦ omega (arith, is, first.early)
      | inr b ↦ first.least goes.packets c.args.self.now.closed m b
    ]))
