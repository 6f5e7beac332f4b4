use Rattle.std.proofs.Common.{ℕ, List, length, ap, rules, arith}
use Rattle.r10_packet.specs.declared.header.Header.{Header}
use Rattle.r10_packet_rules.proofs.Findings.{not_framed}
use Rattle.r10_packet_rules.proofs.HeaderAndBody.{short_at}
use Rattle.r10_packet_rules.proofs.strict.read_strict.Goals as goal

pub find-requires : goal.find-requires
find-requires c =
    let body = c.in-Ok.ensures.body in
    let header = c.in-Ok.ensures.header in
    omega (arith, short_at c.args.bytes.now c.in-Ok.ensures.sound, ap (λ (t : List ℕ). length t) body, ap (λ (h : Header). h.packet_len) header)

pub returns-in-Ok : goal.returns-in-Ok
returns-in-Ok c = c.find.ensures c.in-Ok.ensures.header c.in-Ok.ensures.body c.in-Ok.ensures.sound c.is_filled-filled.ensures

pub returns-in-Err : goal.returns-in-Err
returns-in-Err c = not_framed c.args.bytes.now _ (λ i. let fits = c.type_inv.bytes i in search rules) c.in-Err.ensures.fault
