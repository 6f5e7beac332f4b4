-- How long the parts of a packet are.
use Rattle.std.proofs.Common.{◌≡◌, ℕ, zero, suc, ◌+◌, ◌-◌, ◌*◌, ◌/◌, ◌%◌, ◌<◌, ◌≤◌, List, [], ◌∷◌, ◌++◌, length, refl, ap, ◌∙◌, arith, length-append}
use Rattle.std.specs.Prelude.{slice_index}
use Rattle.std.proofs.lemmas.List.{length-replicate}
use Rattle.r10_packet.specs.Sums.{data_checksum}
use Rattle.r10_packet.specs.Header.{header_bytes, checksum_bits, check_bits_of, flags_of}
use Rattle.r10_packet.specs.Packet.{with_trailer, least_filler, framed_bytes, framed}
use Rattle.r10_packet.specs.declared.header.Header.{Header}
use Rattle.r10_packet.specs.declared.check.Check.{Check}
use Rattle.r10_packet.specs.declared.check.Check.TheVariants.{Nothing, Sum8, Sum16, Sum32}

pub header_length : (h : Header) → length (header_bytes h) ≡ 24
unfolding header_bytes
header_length h = refl

length_at : (n : ℕ) (bytes : List ℕ) → n < 4 → length (data_checksum (slice_index (0 ∷ 8 ∷ 16 ∷ 32 ∷ []) n) bytes) ≡ slice_index (0 ∷ 8 ∷ 16 ∷ 32 ∷ []) n / 8
length_at zero bytes h = refl
length_at (suc zero) bytes h = refl
length_at (suc (suc zero)) bytes h = refl
length_at (suc (suc (suc zero))) bytes h = refl
length_at (suc (suc (suc (suc n)))) bytes h = absurd (omega arith)

width_at : (n : ℕ) → n < 4 → slice_index (0 ∷ 8 ∷ 16 ∷ 32 ∷ []) n / 8 ≤ 4
width_at zero h = omega arith
width_at (suc zero) h = omega arith
width_at (suc (suc zero)) h = omega arith
width_at (suc (suc (suc zero))) h = omega arith
width_at (suc (suc (suc (suc n)))) h = absurd (omega arith)

-- the checksum that the flags tell has its width, of 4 bytes at most
pub checksum_length : (flags : ℕ) (bytes : List ℕ) → length (data_checksum (checksum_bits flags) bytes) ≡ checksum_bits flags / 8
checksum_length flags bytes = length_at (flags % 4) bytes (omega arith)

pub checksum_width : (flags : ℕ) → checksum_bits flags / 8 ≤ 4
checksum_width flags = width_at (flags % 4) (omega arith)

-- body, filler and checksum, whatever the filler
pub filled_length : (flags : ℕ) (body filler : List ℕ) → length (with_trailer (checksum_bits flags) body filler) ≡ length body + length filler + checksum_bits flags / 8
filled_length flags body filler =
    let bits = checksum_bits flags in
    let front : length (body ++ filler) ≡ length body + length filler = length-append body filler in
    let sum : length (data_checksum bits (body ++ filler)) ≡ bits / 8 = checksum_length flags (body ++ filler) in
    let whole : length ((body ++ filler) ++ data_checksum bits (body ++ filler)) ≡ length (body ++ filler) + length (data_checksum bits (body ++ filler)) = length-append (body ++ filler) (data_checksum bits (body ++ filler)) in
    omega arith

-- with the least filler they are whole words
pub least_length : (flags : ℕ) (body : List ℕ) → length (with_trailer (checksum_bits flags) body (least_filler (checksum_bits flags) body)) ≡ (length body + checksum_bits flags / 8 + 3) / 4 * 4
least_length flags body =
    let n : ℕ = checksum_bits flags / 8 in
    let fill : length (least_filler (checksum_bits flags) body) ≡ (4 - (length body + n) % 4) % 4 = length-replicate {A = ℕ} ((4 - (length body + n) % 4) % 4) 0 in
    let all = filled_length flags body (least_filler (checksum_bits flags) body) in
    omega (arith, all, fill)

pub framed_length : (h : Header) (body : List ℕ) → length (framed_bytes h body) ≡ (framed h body).packet_len
framed_length h body =
    let bits = checksum_bits h.flags in
    length-append (header_bytes (framed h body)) (with_trailer bits body (least_filler bits body))
    ∙ ap (λ n. n + length (with_trailer bits body (least_filler bits body))) (header_length (framed h body))

-- the flags of a checksum tell it
pub flags_tell : (check : Check) → checksum_bits (flags_of check) ≡ check_bits_of check
flags_tell Nothing = refl
flags_tell Sum8 = refl
flags_tell Sum16 = refl
flags_tell Sum32 = refl

-- and are the two low bits
pub flags_small : (check : Check) → flags_of check < 4
flags_small Nothing = omega arith
flags_small Sum8 = omega arith
flags_small Sum16 = omega arith
flags_small Sum32 = omega arith
