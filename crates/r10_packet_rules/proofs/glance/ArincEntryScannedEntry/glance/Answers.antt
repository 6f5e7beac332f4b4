use Rattle.std.proofs.Common.{◌<◌, ◌^◌, arith, rules}
use Rattle.r10_packet_rules.proofs.FixedEntries.{arinc_glimpse, arinc_told}
use Rattle.r10_packet_rules.proofs.glance.ArincEntryScannedEntry.glance.Goals as goal

pub returns-then-gap-gt-LONGEST_GAP-clause-none : goal.returns-then-gap-gt-LONGEST_GAP-clause-none
returns-then-gap-gt-LONGEST_GAP-clause-none c = λ e rest fits suits is.
    let reported = arinc_told c.args.before c.args.bytes.now c.in-Some.rest.now rest c.in-Some.header c.in-Some._word e (search rules) (search rules) fits is in
    omega (arith, c.if-gap-gt-LONGEST_GAP.true, reported.0)

pub returns-in_default-of-clause-none : goal.returns-in_default-of-clause-none
returns-in_default-of-clause-none c = λ e rest fits suits is.
    let reported = arinc_told c.args.before c.args.bytes.now c.in-Some.rest.now rest c.in-Some.header c.in-Some._word e (search rules) (search rules) fits is in
    let count : e.count < 2 ^ 48 = fits.fields.count in
    c.in_default-of.ensures (omega (arith, c.saturating_add.ensures, c.from.ensures, reported.1, count))

pub returns-clause-found : goal.returns-clause-found
returns-clause-found c =
    arinc_glimpse c.args.setting c.args.before c.args.bytes.now c.in-Some.rest.now c.in-Some-of.count c.in-Some.header c.in-Some._word (search rules) (search rules) (search rules) c.if-gap-gt-LONGEST_GAP.false
    (omega (arith, c.in-Some-of.ensures.0, c.in-Some-of.ensures.1, c.saturating_add.ensures, c.from.ensures)) (search rules)
