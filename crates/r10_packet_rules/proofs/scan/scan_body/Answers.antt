use Rattle.std.proofs.Common.{rules, sym, ◌∙◌}
use Rattle.r10_packet_rules.proofs.Scanned.{number_is, body_agrees, body_entries, body_is}
use Rattle.r10_packet_rules.proofs.scan.scan_body.Goals.{then-word-via-then-word, then-word-via-else-word+then-not-agrees}
use Rattle.r10_packet_rules.proofs.scan.scan_body.Goals as goal

pub returns-in_default-scan-clause-none : goal.returns-in_default-scan-clause-none
returns-in_default-scan-clause-none g c = λ es is.
    c.in_default-scan.ensures.none es (body_entries g.E.BodyEntry.form c.args.setting c.args.counter c.in-Some.word c.in-Some.rest.now c.args.body.now (search rules) (search rules) es is)

pub returns-then-word-clause-none : goal.returns-then-word-clause-none
returns-then-word-clause-none g c = λ es is.
    let found = c.in-Some-scan.ensures.found in
    let number = number_is g.E.ChannelEntry.channel.said c.in-Some-scan.tally found.0 found.2 in
    let agrees = body_agrees g.E.BodyEntry.form c.args.setting c.args.counter c.in-Some.word c.in-Some-scan.tally.entries c.in-Some.rest.now c.args.body.now found.0 es (search rules) (search rules) found.1 number is in
    elim c.then-word.branch [
      | then-word-via-then-word w ↦ w.if-word.true (agrees.reported ∙ sym c.word.ensures)
      | then-word-via-else-word+then-not-agrees w ↦ (let not = w.if-not-agrees.true in let reported = w.agrees.ensures in let yes = agrees.agrees in absurd cc)
    ]

pub returns-clause-found : goal.returns-clause-found
returns-clause-found g c =
    let found = c.in-Some-scan.ensures.found in
    let number = number_is g.E.ChannelEntry.channel.said c.in-Some-scan.tally found.0 found.2 in (
      found.0,
      body_is g.E.BodyEntry.form c.args.setting c.args.counter c.in-Some.word c.in-Some-scan.tally.entries c.in-Some.rest.now c.args.body.now found.0 (search rules) found.1 number
          (c.if-word.false ∙ c.word.ensures) (sym c.agrees.ensures ∙ search rules),
      found.2,
    )
