use Rattle.std.proofs.Common.{◌≡◌, ℕ, true, List, length, sym, ap, ◌∙◌, arith, rules}
use Rattle.r10_packet.specs.Framing.{has_data_checksum}
use Rattle.r10_packet.specs.declared.header.Header.{Header}
use Rattle.r10_packet.specs.declared.view.DataSum.TheVariants.{Right}
use Rattle.r10_body.specs.Foreign.{opaque_at}
use Rattle.r10_packet_rules.proofs.Fronts.{body_here, body_there, not_right, same_opaque}
use Rattle.r10_packet_rules.proofs.Once.{alone}
use Rattle.r10_packet_rules.proofs.HeaderAndBody.{short_at}
use Rattle.r10_packet_rules.proofs.TrackSoFar.{first_is}
use Rattle.r10_packet_rules.proofs.any.read_any.Goals as goal

pub returns-then-opaque-clause-found : goal.returns-then-opaque-clause-found
returns-then-opaque-clause-found c =
    let read = c.in-Ok.ensures in
    let same = same_opaque c.args.bytes.now c.in-Ok.read.0.header c.in-Ok.read.0.body.now c.is_opaque-opaque.result read.header read.body c.is_opaque-opaque.ensures in
    let reported : true ≡ opaque_at c.args.bytes.now = sym c.if-opaque.true ∙ same in
    first_is c.args.bytes.now _ read.sound read.size.0 same (λ clear. absurd (cc (reported, clear)))

pub returns-then-ne-clause-fault : goal.returns-then-ne-clause-fault
returns-then-ne-clause-fault c =
    let read = c.in-Ok.ensures in
    let same = same_opaque c.args.bytes.now c.in-Ok.read.0.header c.in-Ok.read.0.body.now c.is_opaque-opaque.result read.header read.body c.is_opaque-opaque.ensures in
    let wrong : c.in-Ok.read.0.data_sum ≡ Right → ⊥ = search rules in
    (read.sound, sym same ∙ c.if-opaque.false, not_right (has_data_checksum c.args.bytes.now) c.in-Ok.read.0.data_sum read.right wrong)

pub find_any-requires : goal.find_any-requires
find_any-requires c =
    let read = c.in-Ok.ensures in
    omega (arith, short_at c.args.bytes.now read.sound, ap (λ (t : List ℕ). length t) read.body, ap (λ (h : Header). h.packet_len) read.header)

pub returns-in-Some-clause-found : goal.returns-in-Some-clause-found
returns-in-Some-clause-found c =
    let read = c.in-Ok.ensures in
    let header = c.in-Ok.read.0.header in
    let body = c.in-Ok.read.0.body.now in
    let same = same_opaque c.args.bytes.now header body c.is_opaque-opaque.result read.header read.body c.is_opaque-opaque.ensures in
    let right : c.in-Ok.read.0.data_sum ≡ Right = search rules in
    let own = alone c.args.bytes.now body header c.in-Ok.read.1 read.sound read.header read.body read.size.0 in
    let foreign = c.in-Some.ensures.foreign in
    first_is c.args.bytes.now _ read.sound read.size.0 same
    (λ clear. (read.right.0 right, body_here c.args.bytes.now header body read.header read.body (foreign own.header own.body_is own.sound (own.sum ∙ read.right.0 right))))

pub returns-in-Some-clause-reading : goal.returns-in-Some-clause-reading
returns-in-Some-clause-reading c =
    let read = c.in-Ok.ensures in
    let right : c.in-Ok.read.0.data_sum ≡ Right = search rules in
    let own = alone c.args.bytes.now c.in-Ok.read.0.body.now c.in-Ok.read.0.header c.in-Ok.read.1 read.sound read.header read.body read.size.0 in
    let finds = c.in-Some.ensures.found in
    finds own.header own.body_is own.sound (own.sum ∙ read.right.0 right)

pub returns-in-None-clause-fault : goal.returns-in-None-clause-fault
returns-in-None-clause-fault c =
    let read = c.in-Ok.ensures in
    let header = c.in-Ok.read.0.header in
    let body = c.in-Ok.read.0.body.now in
    let same = same_opaque c.args.bytes.now header body c.is_opaque-opaque.result read.header read.body c.is_opaque-opaque.ensures in
    let right : c.in-Ok.read.0.data_sum ≡ Right = search rules in
    let none = c.in-None.ensures.none in
    (read.sound, sym same ∙ c.if-opaque.false, read.right.0 right, λ is. none (body_there c.args.bytes.now header body read.header read.body is))
