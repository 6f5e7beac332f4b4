use Rattle.std.proofs.Common.{◌≡◌, ◌+◌, ◌-◌, ◌*◌, ◌/◌, ◌++◌, length, take, drop, replicate, refl, sym, subst, ap, ◌∙◌, rules, vec_len}
use Rattle.r10_packet.specs.Sums.{data_checksum}
use Rattle.r10_packet.specs.Header.{FitsHeader, header_bytes, check_bits_of, checksum_bits}
use Rattle.r10_packet.specs.Packet.{framed, framed_bytes, IsPacket}
use Rattle.r10_packet.proofs.Lengths.{header_length}
use Rattle.r10_packet.proofs.Frames.{framed_is, framed_sentence, is_framed}
use Rattle.r10_packet.proofs.packet.Packet.frame.Goals as goal

-- the items after the calls that may fail
bytes_are : (c : goal.In_ok-push_checksum) → c.push_checksum.new.out.items ≡ framed_bytes c.args.header.now c.args.body.now
bytes_are c =
    let h = c.args.header.now in
    let body = c.args.body.now in
    let bits = checksum_bits h.flags in
    let kind : check_bits_of c.of_flags-check.result ≡ bits = c.of_flags-check.ensures in
    let wide : c.width.result ≡ bits / 8 = c.width.ensures.value ∙ ap (λ b. b / 8) kind in
    let same : c.width-2.result ≡ c.width.result = c.width-2.ensures.value ∙ sym c.width.ensures.value in
    let size = (length body + c.width.result + 27) / 4 * 4 in
    let n = size - c.width-2.result in
    let made : record h { packet_len = size; data_len = length body } ≡ framed h body = is_framed h body c.width.result size wide refl in
    let wrote : c.encode_header.result ≡ header_bytes (framed h body) = c.encode_header.ensures.bytes ∙ ap header_bytes made in
    let x3 = c.resize.new.self.items in
    let e1 : c.extend_from_slice.new.self.items ≡ c.in_ok-out.out.items ++ c.encode_header.result = c.in_ok-extend_from_slice.ensures.items in
    let e4 : c.push_checksum.new.out.items ≡ x3 ++ data_checksum (check_bits_of c.of_flags-check.result) (drop 24 x3) = c.in_ok-push_checksum.ensures in
    let len2 : vec_len c.extend_from_slice-2.new.self ≡ length c.extend_from_slice-2.new.self.items = search rules in
    let e3 : x3 ≡ take n c.extend_from_slice-2.new.self.items ++ replicate (n - vec_len c.extend_from_slice-2.new.self) 0 = c.in_ok-resize.ensures.items in
    framed_is bits c.width.result (header_bytes (framed h body)) body
    c.in_ok-out.out.items c.extend_from_slice.new.self.items c.extend_from_slice-2.new.self.items x3 c.push_checksum.new.out.items
    n wide (header_length (framed h body)) c.in_ok-out.ensures.items (e1 ∙ ap (λ b. c.in_ok-out.out.items ++ b) wrote)
    c.in_ok-extend_from_slice-2.ensures.items (ap (λ w. size - w) same) (e3 ∙ ap (λ m. take n c.extend_from_slice-2.new.self.items ++ replicate (n - m) 0) len2)
    (e4 ∙ ap (λ b. x3 ++ data_checksum b (drop 24 x3)) kind) c.width.ensures.range

pub returns-clause-bytes : goal.returns-clause-bytes
returns-clause-bytes c = bytes_are c

pub returns-clause-sentence : goal.returns-clause-sentence
returns-clause-sentence c =
    let h = c.args.header.now in
    let body = c.args.body.now in
    let wide : c.width.result ≡ checksum_bits h.flags / 8 = c.width.ensures.value ∙ ap (λ b. b / 8) c.of_flags-check.ensures in
    let size = (length body + c.width.result + 27) / 4 * 4 in
    let made : record h { packet_len = size; data_len = length body } ≡ framed h body = is_framed h body c.width.result size wide refl in
    subst (λ bytes. IsPacket bytes (framed h body) body) (sym (bytes_are c)) (framed_sentence h body (subst FitsHeader made c.encode_header.ensures.fits))
