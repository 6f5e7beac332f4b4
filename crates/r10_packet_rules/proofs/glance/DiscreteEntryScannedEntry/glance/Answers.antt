use Rattle.std.proofs.Common.{◌≡◌, false, ap, sym, ◌∙◌, rules}
use Rattle.r10_discrete.specs.Entry.{has_only}
use Rattle.r10_packet_rules.proofs.FixedEntries.{discrete_glimpse, discrete_told}
use Rattle.r10_packet_rules.proofs.glance.DiscreteEntryScannedEntry.glance.Goals as goal

pub returns-in_default-clause-none : goal.returns-in_default-clause-none
returns-in_default-clause-none c = λ e rest fits suits is. c.in_default.ensures.none e.count e.message.states rest fits.count fits.states is

pub returns-then-not-has_only-clause-none : goal.returns-then-not-has_only-clause-none
returns-then-not-has_only-clause-none c = λ e rest fits suits is.
    let reported = discrete_told c.args.bytes.now c.in-Some.change.rest.now rest c.in-Some.change.count c.in-Some.change.states e (search rules) (search rules) c.in-Some.ensures.found fits is in
    let no : has_only c.args.setting e.message.states ≡ false = sym (ap (has_only c.args.setting) reported) ∙ sym c.has_only.ensures ∙ c.if-not-has_only.true in
    absurd (cc (no, suits))

pub returns-clause-found : goal.returns-clause-found
returns-clause-found c =
    discrete_glimpse c.args.setting c.args.before c.args.bytes.now c.in-Some.change.rest.now c.in-Some.change.count c.in-Some.change.states (search rules) (search rules)
    (sym c.has_only.ensures ∙ c.if-not-has_only.false) c.in-Some.ensures.found
