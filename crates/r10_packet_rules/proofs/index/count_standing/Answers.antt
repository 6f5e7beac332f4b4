use Rattle.std.proofs.Common.{rules}
use Rattle.std.proofs.lemmas.List.{nil_from_length}
use Rattle.std.proofs.lemmas.Bool.{eqb-true}
use Rattle.r10_packet_rules.proofs.Scanned.{none_first}
use Rattle.r10_packet_rules.proofs.IndexEntries.{longer, stood_all, stood_first, stood_more, stood_stuck}
use Rattle.r10_packet_rules.proofs.index.count_standing.Goals as goal

pub returns-in_default-clause-none : goal.returns-in_default-clause-none
returns-in_default-clause-none g c = λ entries are.
    none_first g.E.BodyEntry.form 0 0 c.args.bytes.now (λ e rest fits suits is. c.in_default.ensures.none 0 e rest fits is) entries are

pub loop-after-init : goal.loop-after-init
loop-after-init g c =
    let found = c.in-Some.ensures.found in
    stood_first g.E.BodyEntry.form c.args.bytes.now c.in-Some.behind.now found.0 found.1

pub loop-after-preserved : goal.loop-after-preserved
loop-after-preserved g c =
    let found = c.in-Some-behind.ensures.found in
    stood_more g.E.BodyEntry.form c.args.bytes.now c.loop-after.rest.now c.in-Some-behind.after.now c.loop-after.count found.0 found.1 c.loop-after.invariant

pub returns-then-not-is_empty-clause-none : goal.returns-then-not-is_empty-clause-none
returns-then-not-is_empty-clause-none g c = λ entries are.
    stood_stuck g.E.BodyEntry.form c.args.bytes.now c.loop-after.rest.now c.loop-after.count (search rules) c.in_default-behind.ensures.none c.loop-after.invariant entries are

pub returns-clause-found : goal.returns-clause-found
returns-clause-found g c =
    stood_all g.E.BodyEntry.form c.args.bytes.now c.loop-after.rest.now c.loop-after.count (nil_from_length _ (search (rules, eqb-true))) c.loop-after.invariant

pub loop-after-smaller : goal.loop-after-smaller
loop-after-smaller g c =
    let found = c.in-Some-behind.ensures.found in
    longer g.E.BodyEntry.form found.0 c.loop-after.rest.now c.in-Some-behind.after.now found.1
