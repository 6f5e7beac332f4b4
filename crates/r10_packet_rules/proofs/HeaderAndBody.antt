-- The header and the body of a packet, from its bytes.
use Rattle.std.proofs.Common.{◌≡◌, ℕ, ◌+◌, ◌-◌, ◌≤◌, true, List, ◌++◌, length, take, drop, ap, ◌∙◌, None, arith}
use Rattle.std.proofs.lemmas.List.{length-take, take_at}
use Rattle.r10_packet.specs.Header.{FitsHeader, header_bytes}
use Rattle.r10_packet.specs.Framing.{framing_fault, header_at, body_at, has_lengths}
use Rattle.r10_packet.specs.declared.header.Header.{Header}
use Rattle.r10_packet.proofs.Fields.{AreBytes, header_back, fields_fit}
use Rattle.r10_packet.proofs.NoRuleBroken.{lengths_of, whole_of}
use Rattle.r10_packet.proofs.Lengths.{header_length}

-- what the first 24 bytes of a framed packet are
pub record IsHeader (front bytes : List ℕ) : Type 0 where
  pub fits : FitsHeader (header_at bytes)
  pub lengths : has_lengths (header_at bytes) ≡ true
  pub front_is : front ≡ header_bytes (header_at bytes)

pub header_first : (bytes front : List ℕ) → AreBytes bytes → framing_fault bytes ≡ None → front ≡ take 24 bytes → IsHeader front bytes
header_first bytes front fits sound e =
    let whole = whole_of bytes sound in
    let back : bytes ≡ header_bytes (header_at bytes) ++ drop 24 bytes = header_back bytes whole.long fits whole.sound.sync whole.sound.total in
    record {
      fits = fields_fit bytes fits;
      lengths = whole.sound.lengths;
      front_is = e ∙ ap (take 24) back ∙ take_at (header_bytes (header_at bytes)) (drop 24 bytes) 24 (header_length (header_at bytes));
    }

-- a framed packet has its header and its body
pub long_enough : (bytes : List ℕ) → framing_fault bytes ≡ None → 24 + (header_at bytes).data_len ≤ length bytes
long_enough bytes sound =
    let whole = whole_of bytes sound in
    let lengths = lengths_of (header_at bytes) whole.sound.lengths in
    omega (arith, whole.whole, lengths.inside, lengths.least)

pub body_first : (bytes rest : List ℕ) (h : Header) (n : ℕ) → h ≡ header_at bytes → n ≡ h.data_len → rest ≡ drop 24 bytes → take n rest ≡ body_at bytes
body_first bytes rest h n header size e =
    let count : n ≡ 24 + (header_at bytes).data_len - 24 = omega (arith, size, ap (λ (g : Header). g.data_len) header) in
    ap (take n) e ∙ ap (λ m. take m (drop 24 bytes)) count

pub short_at : (bytes : List ℕ) → framing_fault bytes ≡ None → length (body_at bytes) ≤ (header_at bytes).packet_len
short_at bytes sound =
    let h = header_at bytes in
    let lengths = lengths_of h (whole_of bytes sound).sound.lengths in
    omega (arith, length-take (24 + h.data_len - 24) (drop 24 bytes), lengths.inside, lengths.least)
