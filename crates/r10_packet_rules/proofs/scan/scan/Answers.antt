use Rattle.std.proofs.Common.{rules, sym, ◌∙◌}
use Rattle.std.proofs.lemmas.List.{nil_from_length}
use Rattle.std.proofs.lemmas.Bool.{eqb-true}
use Rattle.r10_packet_rules.proofs.Scanned.{none_first, none_opens, scanned_all, scanned_on, scanned_one, scanned_stuck, tally_at}
use Rattle.r10_packet_rules.proofs.scan.scan.Goals as goal

pub returns-in_default-clause-none : goal.returns-in_default-clause-none
returns-in_default-clause-none g c = λ entries are. none_first g.E.BodyEntry.form c.args.setting c.args.counter c.args.bytes.now c.in_default.ensures.none entries are

pub returns-then-not-may_open-clause-none : goal.returns-then-not-may_open-clause-none
returns-then-not-may_open-clause-none g c = λ entries are.
    let found = c.in-Some.ensures.found in
    let closed = sym (c.may_open.ensures found.0 (found.1.same ∙ sym found.1.count)) ∙ search rules in
    none_opens g.E.BodyEntry.form g.E.ChannelEntry.channel.said c.args.setting c.args.counter c.args.bytes.now c.in-Some.behind.now c.in-Some.first found.0 found.1 found.2 closed entries are

pub loop-glimpse-init : goal.loop-glimpse-init
loop-glimpse-init g c =
    let found = c.in-Some.ensures.found in
    let opens = sym (c.may_open.ensures found.0 (found.1.same ∙ sym found.1.count)) ∙ search rules in
    scanned_one g.E.BodyEntry.form g.E.ChannelEntry.channel.said c.args.setting c.args.counter c.args.bytes.now c.in-Some.behind.now c.in-Some.first found.0 found.1 found.2 opens

pub loop-glimpse-preserved : goal.loop-glimpse-preserved
loop-glimpse-preserved g c =
    let at = c.loop-glimpse in
    let found = rw c.get.ensures.value at c.in-Some-glance.ensures.found in
    rw (c.goes_on-rise.ensures, c.higher-greatest.ensures) (scanned_on g.E.BodyEntry.form g.E.ChannelEntry.channel.said c.args.setting c.args.counter c.args.bytes.now at.entries at.cost c.in-Some.first.count at.last at.greatest at.rise at.rest.now
    c.in-Some-glance.after.now c.in-Some-glance.glimpse found.0 found.1 found.2 at.invariant)

pub returns-then-not-is_empty-clause-none : goal.returns-then-not-is_empty-clause-none
returns-then-not-is_empty-clause-none g c = λ entries are.
    let at = c.loop-glimpse in
    let none = rw c.get.ensures.value at c.in_default-glance.ensures.none in
    scanned_stuck g.E.BodyEntry.form g.E.ChannelEntry.channel.said c.args.setting c.args.counter c.args.bytes.now at.last at.rest.now (tally_at at.entries at.cost c.in-Some.first.count at.last at.greatest at.rise)
    at.invariant.scanned (search rules) none entries are

pub returns-clause-found : goal.returns-clause-found
returns-clause-found g c =
    let at = c.loop-glimpse in
    scanned_all g.E.BodyEntry.form g.E.ChannelEntry.channel.said c.args.setting c.args.counter c.args.bytes.now at.last at.rest.now (tally_at at.entries at.cost c.in-Some.first.count at.last at.greatest at.rise)
    at.invariant.scanned (nil_from_length _ (search (rules, eqb-true)))
