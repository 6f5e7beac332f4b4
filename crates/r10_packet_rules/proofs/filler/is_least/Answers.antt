use Rattle.std.proofs.Common.{rules, ap, ◌∙◌, ◌/◌}
use Rattle.r10_packet_rules.proofs.Spelled.{filler_told, room_of}
use Rattle.r10_packet.specs.declared.header.Header.{Header}
use Rattle.r10_packet.specs.Header.{checksum_bits}
use Rattle.r10_packet_rules.proofs.filler.is_least.Goals as goal

pub returns-in-Some : goal.returns-in-Some
returns-in-Some c = λ header framed checked.
    let width = c.width-width.ensures.value ∙ ap (λ n. n / 8) c.of_flags.ensures ∙ ap (λ (h : Header). checksum_bits h.flags / 8) header in
    filler_told c.args.bytes.now c.in-Some.filler.now c.args.header.now c.width-width.result c.eq.result (λ i. let fits = c.type_inv.bytes i in search rules)
    framed checked header width c.in-Some.ensures.some c.eq.ensures

pub returns-in-None : goal.returns-in-None
returns-in-None c = λ header framed checked.
    let room = room_of c.args.bytes.now framed checked in
    let width = c.width-width.ensures.value ∙ ap (λ n. n / 8) c.of_flags.ensures in
    absurd (c.in-None.ensures.none (rw (header, width, header) room.room) (rw header room.whole))
