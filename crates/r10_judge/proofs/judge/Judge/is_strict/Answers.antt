use Rattle.std.proofs.Common.{sym, subst, true≢false}
use Rattle.r10_judge.specs.Judged.{KeepsRulesSoFar, BreaksAt}
use Rattle.r10_judge.proofs.Judging.{at_none, at_some, whole_is_strict, strict_is_whole, broken_is_none}
use Rattle.r10_judge.proofs.judge.Judge.is_strict.Goals as goal

pub returns-in-None : goal.returns-in-None
returns-in-None c = λ bytes stands closed.
    let goes : KeepsRulesSoFar c.args.self.now.closed c.args.self.now.tracks bytes = at_none c.args.self.now.broken c.args.self.now.closed c.args.self.now.tracks bytes c.in-None.is stands in
    let whole = c.is_whole.ensures goes.packets goes.tracked in (
      (λ is. whole_is_strict bytes goes.packets goes.bytes_are (record { each = goes.keep.strict; start = (whole.0 is).0; index = (whole.0 is).1; reports = (whole.0 is).2 })),
      (λ strict. let file = strict_is_whole bytes goes.packets goes.bytes_are goes.keep.strict strict in whole.1 (file.start, file.index, file.reports)),
    )

pub returns-in-Some : goal.returns-in-Some
returns-in-Some c = λ bytes stands closed.
    let at = c.in-Some.field-0 in
    let b : BreaksAt c.args.self.now.closed at bytes = at_some c.args.self.now.broken at c.args.self.now.closed c.args.self.now.tracks bytes c.in-Some.is stands in
    ((λ is. absurd (true≢false (sym is))), (λ strict. absurd (broken_is_none at bytes (subst (λ k. BreaksAt k at bytes) closed b) strict)))
