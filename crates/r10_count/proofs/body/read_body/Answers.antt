use Rattle.std.proofs.Common.{rules, ◌≡◌, ℕ, List, length, sym, ◌∙◌}
use Rattle.r10_count.specs.Form.{IsSplit, IsSpelled, OpensAll, SuitsAll}
use Rattle.r10_count.proofs.Bodies.{body_is_foreign, foreign_split, foreign_counted, not_own, not_agreeing, body_of, same_number}
use Rattle.r10_count.proofs.body.read_body.Goals as goal

pub returns-in_default-count_entries-clause-only : goal.returns-in_default-count_entries-clause-only
returns-in_default-count_entries-clause-only g c = λ entries is.
    let form = g.E.BodyEntry.form in
    let left = foreign_split form c.in-Some.word c.in-Some.rest.now c.args.body.now (search rules) (search rules) (body_is_foreign form c.args.setting c.args.counter entries c.args.body.now is) in
    let found = c.in_default-count_entries.ensures.only left.0 left.1 in absurd cc

pub returns-then-not-agrees-clause-only : goal.returns-then-not-agrees-clause-only
returns-then-not-agrees-clause-only g c = λ entries is.
    let form = g.E.BodyEntry.form in
    absurd (not_agreeing form c.in-Some.word c.in-Some-count_entries.count c.in-Some.rest.now c.args.body.now (search rules) (search rules)
    (λ parts s. let h = c.in-Some-count_entries.ensures.only parts s in cc) (search rules) (body_is_foreign form c.args.setting c.args.counter entries c.args.body.now is))

pub returns-then-word-clause-found : goal.returns-then-word-clause-found
returns-then-word-clause-found g c =
    let form = g.E.BodyEntry.form in (
      foreign_counted form c.in-Some.word c.in-Some-count_entries.count c.in-Some.rest.now c.args.body.now (search rules) (search rules) c.in-Some-count_entries.ensures.some (search rules),
      not_own form c.args.setting c.args.counter c.in-Some.word c.in-Some-count_entries.count c.in-Some.rest.now c.args.body.now (search rules) (search rules)
          (λ parts s. let h = c.in-Some-count_entries.ensures.only parts s in cc) (λ same. c.if-word.true (same ∙ sym c.word.ensures)),
    )

pub returns-then-word-clause-only : goal.returns-then-word-clause-only
returns-then-word-clause-only g c = λ entries is.
    let form = g.E.BodyEntry.form in
    absurd (not_own form c.args.setting c.args.counter c.in-Some.word c.in-Some-count_entries.count c.in-Some.rest.now c.args.body.now (search rules) (search rules)
    (λ parts s. let h = c.in-Some-count_entries.ensures.only parts s in cc) (λ same. c.if-word.true (same ∙ sym c.word.ensures)) entries is)

pub returns-then-may_come-clause-found : goal.returns-then-may_come-clause-found
returns-then-may_come-clause-found g c =
    let form = g.E.BodyEntry.form in
    let spelled : IsSpelled form c.args.counter c.in-Some-2.entries c.in-Some.rest.now = search rules in
    let only : (parts : List (List ℕ)) → IsSplit form parts c.in-Some.rest.now → c.in-Some-count_entries.count ≡ length parts = λ parts s. let h = c.in-Some-count_entries.ensures.only parts s in cc in
    let may : OpensAll form c.args.counter c.in-Some-2.entries × SuitsAll form c.args.setting c.in-Some-2.entries = search rules in
    body_of form c.args.setting c.args.counter c.in-Some.word c.in-Some-count_entries.count c.in-Some.rest.now c.args.body.now c.in-Some-2.entries
    (search rules) (same_number form c.args.counter c.in-Some.rest.now c.in-Some-count_entries.count only c.in-Some-2.entries spelled) (search rules) (search rules) spelled may.0 may.1
