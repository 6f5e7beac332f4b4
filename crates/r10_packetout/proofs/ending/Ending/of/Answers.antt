use Rattle.std.proofs.Common.{◌≡◌, ◌+◌, ◌/◌, ◌∷◌, take, refl, rules}
use Rattle.r10_packet.specs.Header.{check_bits_of}
use Rattle.r10_packet.specs.Sums.{data_checksum}
use Rattle.r10_packetout.proofs.Summing.{ending_is}
use Rattle.r10_packetout.proofs.ending.Ending.of.Goals as goal
use Rattle.r10_packetout.proofs.ending.Ending.of.Goals.{in-Nothing, in-Sum8, in-Sum16, in-Sum32}

pub returns : goal.returns
returns c =
    let bits = check_bits_of c.args.check in
    let bytes : take (3 + bits / 8) c.match-check.bytes ≡ 0 ∷ 0 ∷ 0 ∷ data_checksum bits c.args.body.now = elim c.match-check.branch [
      | in-Nothing w ↦ rw (w.in-Nothing.is, w.bytes-is) refl
      | in-Sum8 w ↦ rw (w.in-Sum8.is, w.bytes-is) (search rules)
      | in-Sum16 w ↦ rw (w.in-Sum16.is, w.bytes-is) (search rules)
      | in-Sum32 w ↦ rw (w.in-Sum32.is, w.bytes-is) (search rules)
    ] in
    ending_is bits c.width-width.result _ c.match-check.bytes c.args.body.now c.width-width.ensures.value refl bytes
