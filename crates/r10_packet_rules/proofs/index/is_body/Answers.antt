use Rattle.std.proofs.Common.{◌≡◌, false, true, rules, sym, ◌∙◌}
use Rattle.r10_packet_rules.proofs.Scanned.{body_agrees, body_entries, body_is}
use Rattle.r10_packet_rules.proofs.index.is_body.Goals as goal

pub returns-in_default-count_standing : goal.returns-in_default-count_standing
returns-in_default-count_standing g c = (
  λ r. absurd (let no : false ≡ true = r in cc),
  λ has. absurd (c.in_default-count_standing.ensures.none has.0 (body_entries g.E.BodyEntry.form 0 0 c.in-Some.word c.in-Some.rest.now c.args.body.now (search rules) (search rules) has.0 has.1)),
)

pub returns-then-word : goal.returns-then-word
returns-then-word g c = (
  λ r. absurd (let no : false ≡ true = r in cc),
  λ has.
      let found = c.in-Some-count_standing.ensures.found in
      let agrees = body_agrees g.E.BodyEntry.form 0 0 c.in-Some.word c.in-Some-count_standing.count c.in-Some.rest.now c.args.body.now found.0 has.0 (search rules) (search rules) found.1 found.2 has.1 in
      absurd (c.if-word.true (agrees.reported ∙ sym c.word.ensures)),
)

pub returns : goal.returns
returns g c =
    let found = c.in-Some-count_standing.ensures.found in (
      λ r. (
        found.0,
        body_is g.E.BodyEntry.form 0 0 c.in-Some.word c.in-Some-count_standing.count c.in-Some.rest.now c.args.body.now found.0 (search rules) found.1 found.2
            (c.if-word.false ∙ c.word.ensures) (sym c.agrees.ensures ∙ r),
      ),
      λ has.
          let agrees = body_agrees g.E.BodyEntry.form 0 0 c.in-Some.word c.in-Some-count_standing.count c.in-Some.rest.now c.args.body.now found.0 has.0 (search rules) (search rules) found.1 found.2 has.1 in
          c.agrees.ensures ∙ agrees.agrees,
    )
