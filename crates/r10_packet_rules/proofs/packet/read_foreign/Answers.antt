use Rattle.std.proofs.Common.{rules, ◌≡◌, false, true, sym, ◌∙◌}
use Rattle.r10_packet.specs.declared.view.DataSum.TheVariants.{Right}
use Rattle.r10_packet.specs.Framing.{has_data_checksum}
use Rattle.r10_body.specs.Foreign.{opaque_at}
use Rattle.r10_packet_rules.proofs.Fronts.{same_opaque, body_there, body_here, not_right}
use Rattle.r10_packet_rules.proofs.TrackSoFar.{first_is}
use Rattle.r10_packet_rules.proofs.packet.read_foreign.Goals as goal

pub returns-then-is_opaque-clause-found : goal.returns-then-is_opaque-clause-found
returns-then-is_opaque-clause-found c =
    let read = c.in-Ok.ensures in
    let same = same_opaque c.args.bytes.now c.in-Ok.read.0.header c.in-Ok.read.0.body.now c.is_opaque.result read.header read.body c.is_opaque.ensures in
    let reported : true ≡ opaque_at c.args.bytes.now = sym c.if-is_opaque.true ∙ same in
    first_is c.args.bytes.now _ read.sound read.size.0 reported (λ clear. absurd (cc (reported, clear)))

pub returns-then-ne-clause-fault : goal.returns-then-ne-clause-fault
returns-then-ne-clause-fault c =
    let read = c.in-Ok.ensures in
    let same = same_opaque c.args.bytes.now c.in-Ok.read.0.header c.in-Ok.read.0.body.now c.is_opaque.result read.header read.body c.is_opaque.ensures in
    let wrong : c.in-Ok.read.0.data_sum ≡ Right → ⊥ = search rules in
    (read.sound, sym same ∙ c.if-is_opaque.false, not_right (has_data_checksum c.args.bytes.now) c.in-Ok.read.0.data_sum read.right wrong)

pub returns-then-not-is_foreign_body-clause-fault :
    goal.returns-then-not-is_foreign_body-clause-fault
returns-then-not-is_foreign_body-clause-fault c =
    let read = c.in-Ok.ensures in
    let same = same_opaque c.args.bytes.now c.in-Ok.read.0.header c.in-Ok.read.0.body.now c.is_opaque.result read.header read.body c.is_opaque.ensures in
    let right : c.in-Ok.read.0.data_sum ≡ Right = search rules in
    let no : c.is_foreign_body.result ≡ false = search rules in (
      read.sound,
      sym same ∙ c.if-is_opaque.false,
      read.right.0 right,
      λ is.
          let yes : c.is_foreign_body.result ≡ true = c.is_foreign_body.ensures.1 (body_there c.args.bytes.now c.in-Ok.read.0.header c.in-Ok.read.0.body.now read.header read.body is) in
          absurd (cc (yes, no)),
    )

pub returns-clause-found : goal.returns-clause-found
returns-clause-found c =
    let read = c.in-Ok.ensures in
    let same = same_opaque c.args.bytes.now c.in-Ok.read.0.header c.in-Ok.read.0.body.now c.is_opaque.result read.header read.body c.is_opaque.ensures in
    let right : c.in-Ok.read.0.data_sum ≡ Right = search rules in
    let yes : c.is_foreign_body.result ≡ true = search rules in
    first_is c.args.bytes.now _ read.sound read.size.0 (sym c.if-is_opaque.false ∙ same)
    (λ clear. (read.right.0 right, body_here c.args.bytes.now c.in-Ok.read.0.header c.in-Ok.read.0.body.now read.header read.body (c.is_foreign_body.ensures.0 yes)))
