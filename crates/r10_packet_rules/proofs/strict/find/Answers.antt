use Rattle.std.proofs.Common.{rules, arith}
use Rattle.r10_packet_rules.proofs.Findings.{is_own, is_not_own, is_not_filled, not_own, not_filled, not_filled_opaque, opaque_told, wrongly_checked, found_strict, found_nothing}
use Rattle.r10_packet_rules.proofs.strict.find.Goals.{then-is_opaque, else-is_opaque}
use Rattle.r10_packet_rules.proofs.strict.find.Goals as goal

pub returns-then-not-is_own : goal.returns-then-not-is_own
returns-then-not-is_own c = λ header body framed filled. not_own c.args.bytes.now (is_not_own c.args.bytes.now c.args.header.now c.is_own.result header c.is_own.ensures (search rules))

pub returns-then-not-filled : goal.returns-then-not-filled
returns-then-not-filled c = λ header body framed filled.
    let own = is_own c.args.bytes.now c.args.header.now c.is_own.result header c.is_own.ensures (search rules) in
    let never = is_not_filled c.args.bytes.now c.args.filled filled (search rules) in
    elim c.if-is_opaque.branch [
      | then-is_opaque w ↦ rw w.rule-is (not_filled_opaque c.args.bytes.now own never (opaque_told c.args.bytes.now c.args.header.now c.args.body.now c.is_opaque.result _ header body c.is_opaque.ensures w.if-is_opaque.true))
      | else-is_opaque w ↦ rw w.rule-is (not_filled c.args.bytes.now (λ i. let fits = c.type_inv.bytes i in search rules) own never (opaque_told c.args.bytes.now c.args.header.now c.args.body.now c.is_opaque.result _ header body c.is_opaque.ensures w.if-is_opaque.false))
    ]

pub returns-then-not-keeps_checksum : goal.returns-then-not-keeps_checksum
returns-then-not-keeps_checksum c = λ header body framed filled.
    let own = is_own c.args.bytes.now c.args.header.now c.is_own.result header c.is_own.ensures (search rules) in
    wrongly_checked c.args.bytes.now c.args.header.now c.keeps_checksum.result header own (filled.0 (search rules)) c.keeps_checksum.ensures (search rules)

pub read_body-requires : goal.read_body-requires
read_body-requires c =
    let own = c.is_own.ensures.0 (search rules) in
    omega (arith, c.requires.short, own.2)

pub returns-in-Some : goal.returns-in-Some
returns-in-Some c = λ header body framed filled.
    let own = is_own c.args.bytes.now c.args.header.now c.is_own.result header c.is_own.ensures (search rules) in
    let found = c.in-Some.ensures.found in
    found_strict c.args.bytes.now c.args.header.now c.args.body.now c.in-Some.facts found.0 (λ i. let fits = c.type_inv.bytes i in search rules)
    framed header body own (filled.0 (search rules)) (c.keeps_checksum.ensures.0 (search rules)) found.1 found.2

pub returns-in-None : goal.returns-in-None
returns-in-None c = λ header body framed filled.
    let own = is_own c.args.bytes.now c.args.header.now c.is_own.result header c.is_own.ensures (search rules) in
    let none = c.in-None.ensures.none in
    found_nothing c.args.bytes.now c.args.header.now c.args.body.now header body own (filled.0 (search rules)) none
