use Rattle.std.proofs.Common.{◌≡◌, ◌%◌, [], ◌∷◌, ◌++◌, arith, drop, List, ℕ, ap, ◌∙◌, sym}
use Rattle.std.specs.Int.{w16, w32, to_le_bytes}
use Rattle.r10_packet.specs.Sums.{sum_of_bytes, sum_of_words16, sum_of_words32, data_checksum}
use Rattle.r10_packet.specs.Header.{check_bits_of}
use Rattle.r10_packet.proofs.Frames.{tail_of}
use Rattle.r10_packet.proofs.packet.push_checksum.Goals as goal

one_byte : (bytes : List ℕ) → sum_of_bytes bytes ≡ sum_of_bytes bytes % 256
one_byte bytes = omega arith

pub returns-in_ok-extend_from_slice-in-Sum8 : goal.returns-in_ok-extend_from_slice-in-Sum8
returns-in_ok-extend_from_slice-in-Sum8 c =
    let old = c.args.out.now.items in
    c.in_ok-extend_from_slice-in-Sum8.ensures.items
    ∙ ap (λ b. old ++ b) (c.to_le_bytes.ensures ∙ ap (λ n. n ∷ []) (c.sum8-sum.ensures ∙ ap sum_of_bytes (tail_of c.deref.result.now old c.deref.ensures.value) ∙ one_byte (drop 24 old)))
    ∙ ap (λ k. old ++ data_checksum (check_bits_of k) (drop 24 old)) (sym c.in-Sum8.is)

pub returns-in_ok-extend_from_slice-in-Sum16 : goal.returns-in_ok-extend_from_slice-in-Sum16
returns-in_ok-extend_from_slice-in-Sum16 c =
    let old = c.args.out.now.items in
    c.in_ok-extend_from_slice-in-Sum16.ensures.items
    ∙ ap (λ b. old ++ b) (c.to_le_bytes-in-Sum16.ensures ∙ ap (to_le_bytes w16) (c.sum16-sum.ensures ∙ ap sum_of_words16 (tail_of c.deref-in-Sum16.result.now old c.deref-in-Sum16.ensures.value)))
    ∙ ap (λ k. old ++ data_checksum (check_bits_of k) (drop 24 old)) (sym c.in-Sum16.is)

pub returns-in_ok-extend_from_slice-in-Sum32 : goal.returns-in_ok-extend_from_slice-in-Sum32
returns-in_ok-extend_from_slice-in-Sum32 c =
    let old = c.args.out.now.items in
    c.in_ok-extend_from_slice-in-Sum32.ensures.items
    ∙ ap (λ b. old ++ b) (c.to_le_bytes-in-Sum32.ensures ∙ ap (to_le_bytes w32) (c.sum32-sum.ensures ∙ ap sum_of_words32 (tail_of c.deref-in-Sum32.result.now old c.deref-in-Sum32.ensures.value)))
    ∙ ap (λ k. old ++ data_checksum (check_bits_of k) (drop 24 old)) (sym c.in-Sum32.is)
