use Rattle.std.proofs.Common.{◌≡◌, Ok, refl, ap, arith, rules}
use Rattle.r10_packet.specs.Framing.{header_at}
use Rattle.r10_packet.specs.declared.header.Header.{Header}
use Rattle.r10_packet_rules.proofs.HeaderAndBody.{header_first, long_enough, body_first}
use Rattle.r10_packet_rules.proofs.strict.parts.Goals as goal

pub returns-in_default-decode_header-clause-whole : goal.returns-in_default-decode_header-clause-whole
returns-in_default-decode_header-clause-whole c = λ sound.
    let is = header_first c.args.bytes.now c.in-Some.front.now (λ i. let fits = c.type_inv.bytes i in search rules) sound c.in-Some.ensures.cases.0 in
    let only : c.decode_header.result ≡ Ok (header_at c.args.bytes.now) = c.decode_header.ensures.only (header_at c.args.bytes.now) is.fits is.lengths is.front_is in
    absurd (cc (only, c.in_default-decode_header.is))

pub returns-then-rest-length-clause-whole : goal.returns-then-rest-length-clause-whole
returns-then-rest-length-clause-whole c = λ sound.
    let is = header_first c.args.bytes.now c.in-Some.front.now (λ i. let fits = c.type_inv.bytes i in search rules) sound c.in-Some.ensures.cases.0 in
    let only : c.decode_header.result ≡ Ok (header_at c.args.bytes.now) = c.decode_header.ensures.only (header_at c.args.bytes.now) is.fits is.lengths is.front_is in
    let same : c.in-Ok.header ≡ header_at c.args.bytes.now = cc (only, c.in-Ok.is) in
    absurd (omega (arith, c.if-rest-length.true, ap (λ (h : Header). h.data_len) same, long_enough c.args.bytes.now sound, c.in-Some.ensures.cases.2))

pub returns-clause-whole : goal.returns-clause-whole
returns-clause-whole c = λ sound.
    let is = header_first c.args.bytes.now c.in-Some.front.now (λ i. let fits = c.type_inv.bytes i in search rules) sound c.in-Some.ensures.cases.0 in
    let only : c.decode_header.result ≡ Ok (header_at c.args.bytes.now) = c.decode_header.ensures.only (header_at c.args.bytes.now) is.fits is.lengths is.front_is in
    let same : c.in-Ok.header ≡ header_at c.args.bytes.now = cc (only, c.in-Ok.is) in
    (same, body_first c.args.bytes.now c.in-Some.rest.now c.in-Ok.header c.in-Ok.header.data_len same refl c.in-Some.ensures.cases.1)
