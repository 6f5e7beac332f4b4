use Rattle.std.proofs.Common.{◌≡◌, true, rules}
use Rattle.r10_packet.specs.Framing.{has_data_checksum}
use Rattle.r10_packet_rules.proofs.Findings.{opaque_told}
use Rattle.r10_packet_rules.proofs.First.{foreign_first}
use Rattle.r10_packet_rules.proofs.strict.read_checked.Goals as goal

pub returns : goal.returns
returns c = λ foreign.
    let first = foreign_first c.args.bytes.now (λ i. let fits = c.type_inv.bytes i in search rules) foreign in
    let are = c.in-Some.ensures.whole first.sound in
    let checked : has_data_checksum c.args.bytes.now ≡ true =
    first.checked (opaque_told c.args.bytes.now c.in-Some.header c.in-Some.body.now c.is_opaque.result _ are.0 are.1 c.is_opaque.ensures c.if-is_opaque.false) in
    let least = c.is_least.ensures are.0 first.sound checked in
    c.find.ensures are.0 are.1 first.sound (λ r. (checked, least.0 r), λ both. least.1 both.1)
