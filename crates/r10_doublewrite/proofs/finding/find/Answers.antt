use Rattle.std.proofs.Common.{MatchOption, ℕ, Option, ◌+◌, take, sym, subst, arith}
use Rattle.r10_sector.specs.Held.{IsAmong}
use Rattle.r10_doublewrite.specs.Last.{IsLast}
use Rattle.r10_doublewrite.proofs.Lasting.{found_new, found_kept}
use Rattle.r10_doublewrite.proofs.finding.find.Goals as goal
use Rattle.r10_doublewrite.proofs.finding.find.Goals.{then-first-n+then-n-first, else-first-n, else-first-n-via-then-first-n+else-n-first, else-first-n-via-else-first-n}

pub loop-i-preserved : goal.loop-i-preserved
loop-i-preserved c =
    let fs = c.args.firsts.now in let per = c.args.per in let n = c.args.n in let i = c.loop-i.i in
    let P = λ (o : Option ℕ). MatchOption o (IsAmong per (take (i + 1) fs) n → ⊥) (λ k. IsLast per (take (i + 1) fs) n k) in
    elim c.if-first-n.branch [
      | then-first-n+then-n-first w ↦ subst P (sym w.found-is) (found_new per n i fs c.loop-i-test.true (omega (arith, w.if-first-n.true)) (omega (arith, w.if-n-first.true, w.if-first-n.true)))
      | else-first-n w ↦ subst P (sym w.found-is) (found_kept per n i fs c.loop-i.found c.loop-i-test.true
          (elim w.else-first-n.branch [
            | else-first-n-via-then-first-n+else-n-first w' ↦ λ from below. omega (arith, w'.if-n-first.false, from, below)
            | else-first-n-via-else-first-n w' ↦ λ from below. omega (arith, w'.if-first-n.false, from)
          ]) c.loop-i.invariant)
    ]
