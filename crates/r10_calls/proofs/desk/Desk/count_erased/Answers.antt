use Rattle.std.proofs.Common.{◌≡◌, ◌+◌, ◌++◌, ◌∙◌, List, ap, drop, get_or, map, set, sym, take, arith, subst}
use Rattle.r10_calls.specs.Losses.{lost_with_erased}
use Rattle.r10_calls.specs.declared.accounts.Accepted.{Accepted}
use Rattle.r10_calls.proofs.Counting.{next_changed}
use Rattle.r10_calls.proofs.desk.Desk.count_erased.Goals as goal

pub loop-at-preserved : goal.loop-at-preserved
loop-at-preserved g c =
    let change = lost_with_erased c.args.self.now.world.recorder.lanes in
    let was = c.args.accepted.now.items in
    let i = c.loop-at.at in
    let d = c.index.result.now in
    subst (λ (xs : List Accepted). set xs i c.erased_of.result ≡ map change (take (i + 1) was) ++ drop (i + 1) was) (sym c.loop-at.invariant)
    (ap (λ (x : Accepted). set (map change (take i was) ++ drop i was) i x) (c.erased_of.ensures ∙ ap change (c.index.ensures ∙ ap (λ (xs : List Accepted). get_or xs i d) c.loop-at.invariant))
    ∙ next_changed change was i d (omega (arith, c.loop-at-test.true, c.len-at-end.ensures)))
