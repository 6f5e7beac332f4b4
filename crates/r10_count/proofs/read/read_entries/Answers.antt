use Rattle.std.proofs.Common.{rules, ◌≡◌, ap, Some, sym, ◌∙◌}
use Rattle.std.proofs.lemmas.List.{nil_from_length}
use Rattle.std.proofs.lemmas.Bool.{eqb-true}
use Rattle.r10_count.proofs.Spelling.{read_more, read_all, read_only, read_stuck, read_unspelled}
use Rattle.r10_count.proofs.read.read_entries.Goals as goal

pub returns-in_default-clause-only : goal.returns-in_default-clause-only
returns-in_default-clause-only g c = λ entries s. absurd (read_stuck g.E.BodyEntry.form c.args.before c.args.bytes.now c.loop-rest.entries.items c.loop-rest.count c.loop-rest.rest.now
    (search rules) c.loop-rest.invariant c.in_default.ensures.none entries s)

pub returns-in_default-2-clause-only : goal.returns-in_default-2-clause-only
returns-in_default-2-clause-only g c =
    let none = rw c.in_default-2.is at c.in_ok-entry.ensures.none in
    λ entries s. absurd (read_unspelled g.E.BodyEntry.form c.args.before c.args.bytes.now c.loop-rest.entries.items c.loop-rest.count c.loop-rest.rest.now
    c.in-Some.first.now c.in-Some.after.now c.loop-rest.invariant (search rules) (search rules) none entries s)

pub loop-rest-preserved : goal.loop-rest-preserved
loop-rest-preserved g c =
    let form = g.E.BodyEntry.form in
    let e = c.in-Some-2.entry in
    let fits : form.Fits c.loop-rest.count e = search rules in
    let is : c.in-Some.first.now ≡ form.spelled c.loop-rest.count e = search rules in
    rw (c.in_ok-push.ensures.items, c.count-count.ensures) (read_more form c.args.before c.args.bytes.now c.loop-rest.entries.items c.loop-rest.count c.loop-rest.rest.now
    c.in-Some.first.now c.in-Some.after.now e (search rules) (search rules) fits is
    (λ d other q. form.one c.loop-rest.count e d fits other (sym is ∙ q)) c.loop-rest.invariant)

pub returns-clause-found : goal.returns-clause-found
returns-clause-found g c = rw c.of.ensures (read_all g.E.BodyEntry.form c.args.before c.args.bytes.now c.loop-rest.entries.items c.loop-rest.count c.loop-rest.rest.now
    (nil_from_length _ (search (rules, eqb-true))) c.loop-rest.invariant)

pub returns-clause-only : goal.returns-clause-only
returns-clause-only g c = λ entries s. ap (λ t. Some t) (c.of.ensures ∙ read_only g.E.BodyEntry.form c.args.before c.args.bytes.now c.loop-rest.entries.items c.loop-rest.count c.loop-rest.rest.now
    (nil_from_length _ (search (rules, eqb-true))) c.loop-rest.invariant entries s)
