use Rattle.std.proofs.Common.{rules, ◌≡◌, true, false, sym, ◌∙◌}
use Rattle.r10_packet.specs.Framing.{has_data_checksum}
use Rattle.r10_body.specs.Foreign.{opaque_at}
use Rattle.r10_packet_rules.proofs.Fronts.{same_opaque, body_there, body_here}
use Rattle.r10_survey.proofs.Looking.{seen_first, same_answer, none_at, some_at}
use Rattle.r10_survey.proofs.look.look.Goals as goal

pub returns-then-is_opaque : goal.returns-then-is_opaque
returns-then-is_opaque c =
    let read = c.in-Ok.ensures in
    let bytes = c.args.bytes.now in
    let same = same_opaque bytes c.in-Ok.read.0.header c.in-Ok.read.0.body.now c.is_opaque.result read.header read.body c.is_opaque.ensures in
    let reported : true ≡ opaque_at bytes = sym c.if-is_opaque.true ∙ same in
    let right : c.is_right-right.result ≡ has_data_checksum bytes = same_answer _ _ c.is_right-right.ensures read.right in
    seen_first bytes _ read.sound read.header read.size.0 reported right (none_at bytes (sym reported)) (λ clear. absurd (cc (reported, clear)))

pub returns-then-not-right : goal.returns-then-not-right
returns-then-not-right c =
    let read = c.in-Ok.ensures in
    let bytes = c.args.bytes.now in
    let same = same_opaque bytes c.in-Ok.read.0.header c.in-Ok.read.0.body.now c.is_opaque.result read.header read.body c.is_opaque.ensures in
    let right : c.is_right-right.result ≡ has_data_checksum bytes = same_answer _ _ c.is_right-right.ensures read.right in
    let wrong : c.is_right-right.result ≡ false = search rules in
    ((read.sound, sym same ∙ c.if-is_opaque.false, sym right ∙ wrong), λ e. absurd (cc))

pub returns-then-not-is_foreign_body : goal.returns-then-not-is_foreign_body
returns-then-not-is_foreign_body c =
    let read = c.in-Ok.ensures in
    let bytes = c.args.bytes.now in
    let same = same_opaque bytes c.in-Ok.read.0.header c.in-Ok.read.0.body.now c.is_opaque.result read.header read.body c.is_opaque.ensures in
    let right : c.is_right-right.result ≡ has_data_checksum bytes = same_answer _ _ c.is_right-right.ensures read.right in
    let yes : c.is_right-right.result ≡ true = search rules in
    let no : c.is_foreign_body.result ≡ false = search rules in (
      (
        read.sound,
        sym same ∙ c.if-is_opaque.false,
        sym right ∙ yes,
        λ is.
            let there : c.is_foreign_body.result ≡ true = c.is_foreign_body.ensures.1 (body_there bytes c.in-Ok.read.0.header c.in-Ok.read.0.body.now read.header read.body is) in
            absurd (cc (there, no)),
      ),
      λ e. absurd (cc),
    )

pub returns : goal.returns
returns c =
    let read = c.in-Ok.ensures in
    let bytes = c.args.bytes.now in
    let same = same_opaque bytes c.in-Ok.read.0.header c.in-Ok.read.0.body.now c.is_opaque.result read.header read.body c.is_opaque.ensures in
    let right : c.is_right-right.result ≡ has_data_checksum bytes = same_answer _ _ c.is_right-right.ensures read.right in
    let yes : c.is_right-right.result ≡ true = search rules in
    let found : c.is_foreign_body.result ≡ true = search rules in
    let clear : opaque_at bytes ≡ false = sym same ∙ c.if-is_opaque.false in
    let body = c.in-Ok.read.0.body.now in
    let has = some_at bytes c.in-Ok.read.0.header body c.count_in-entries.result read.header read.body clear (c.count_in-entries.ensures (c.is_foreign_body.ensures.0 found)) in
    seen_first bytes _ read.sound read.header read.size.0 (sym c.if-is_opaque.false ∙ same) right has
    (λ clear. (sym right ∙ yes, body_here bytes c.in-Ok.read.0.header c.in-Ok.read.0.body.now read.header read.body (c.is_foreign_body.ensures.0 found)))
