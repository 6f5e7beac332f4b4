-- What framing writes, piece by piece.
use Rattle.std.proofs.Common.{◌≡◌, ℕ, ◌+◌, ◌-◌, ◌*◌, ◌/◌, ◌%◌, ◌≤◌, List, [], ◌++◌, length, take, drop, refl, sym, ap, ◌∙◌, arith, take_all, append_assoc, replicate}
use Rattle.std.proofs.lemmas.List.{length-append, length-drop, drop_at}
use Rattle.r10_packet.specs.Sums.{data_checksum}
use Rattle.r10_packet.specs.Header.{FitsHeader, checksum_bits}
use Rattle.r10_packet.specs.Packet.{with_trailer, least_filler, framed, framed_bytes, IsPacket}
use Rattle.r10_packet.specs.declared.header.Header.{Header}
use Rattle.r10_packet.proofs.Lengths.{least_length, framed_length}

-- the rest of a slice after its first 24 bytes
pub tail_of : (d old : List ℕ) → d ≡ old → take (length d - 24) (drop 24 d) ≡ drop 24 old
tail_of d old e = take_all (length d - 24) (drop 24 d) (omega (arith, length-drop 24 d)) ∙ ap (drop 24) e

-- the least length of a packet, known in two ways
pub packet_len_is : (h : Header) (body : List ℕ) → (framed h body).packet_len ≡ (length body + checksum_bits h.flags / 8 + 27) / 4 * 4
packet_len_is h body = omega (arith, least_length h.flags body)

pub framed_is : (bits w : ℕ) (hd body x0 x1 x2 x3 x4 : List ℕ) (n : ℕ) → w ≡ bits / 8 → length hd ≡ 24 → x0 ≡ [] → x1 ≡ x0 ++ hd → x2 ≡ x1 ++ body
    → n ≡ (length body + w + 27) / 4 * 4 - w → x3 ≡ take n x2 ++ replicate (n - length x2) 0 → x4 ≡ x3 ++ data_checksum bits (drop 24 x3)
    → w ≤ 4 → x4 ≡ hd ++ with_trailer bits body (least_filler bits body)
framed_is bits w hd body x0 x1 x2 x3 x4 n ew len e0 e1 e2 en e3 e4 small =
    let start : x2 ≡ hd ++ body = e2 ∙ ap (λ t. t ++ body) (e1 ∙ ap (λ t. t ++ hd) e0) in
    let long : length x2 ≡ 24 + length body = ap (λ t. length t) start ∙ length-append hd body ∙ ap (λ m. m + length body) len in
    let le : length x2 ≤ n = omega (arith, en, long) in
    let count : n - length x2 ≡ (4 - (length body + bits / 8) % 4) % 4 = omega (arith, en, long, ew) in
    let filler = least_filler bits body in
    let padded : x3 ≡ hd ++ (body ++ filler) =
    e3 ∙ ap (λ t. t ++ replicate (n - length x2) 0) (take_all n x2 le ∙ start)
    ∙ ap (λ m. (hd ++ body) ++ replicate m 0) count
    ∙ append_assoc hd body filler in
    let inside : drop 24 x3 ≡ body ++ filler = ap (drop 24) padded ∙ drop_at hd (body ++ filler) 24 len in
    e4 ∙ ap (λ t. t ++ data_checksum bits (drop 24 x3)) padded
    ∙ ap (λ t. (hd ++ (body ++ filler)) ++ data_checksum bits t) inside
    ∙ append_assoc hd (body ++ filler) (data_checksum bits (body ++ filler))

-- it is a packet sentence
pub framed_sentence : (h : Header) (body : List ℕ) → FitsHeader (framed h body) → IsPacket (framed_bytes h body) (framed h body) body
framed_sentence h body fits = record { fits = fits; spelled = refl; packet_len = sym (framed_length h body); data_len = refl }

-- the header that is written has the lengths of the packet
pub is_framed : (h : Header) (body : List ℕ) (w n : ℕ) → w ≡ checksum_bits h.flags / 8 → n ≡ (length body + w + 27) / 4 * 4
    → record h { packet_len = n; data_len = length body } ≡ framed h body
is_framed h body w n ew en =
    let same : n ≡ (framed h body).packet_len = omega (arith, en, ew, packet_len_is h body) in
    ap (λ m. record h { packet_len = m; data_len = length body }) same
