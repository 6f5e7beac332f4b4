use Rattle.std.proofs.Common.{◌≡◌, true, sym, ◌∙◌}
use Rattle.r10_packet.specs.Framing.{header_at, has_data_checksum}
use Rattle.r10_packet.proofs.Whole.{right_iff}
use Rattle.r10_packet_rules.proofs.strict.is_filled.Goals as goal

pub returns-in-Right : goal.returns-in-Right
returns-in-Right c =
    let checked : has_data_checksum c.args.bytes.now ≡ true = (right_iff (header_at c.args.bytes.now) c.args.bytes.now).0 (sym c.requires.data_sum ∙ c.in-Right.is) in
    let least = c.is_least.ensures c.requires.header c.requires.framed checked in
    (λ r. (checked, least.0 r), λ both. least.1 both.1)
