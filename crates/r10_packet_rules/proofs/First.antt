-- What stands in the packet that stands first, and what stands in all bytes.
use Rattle.std.proofs.Common.{◌≡◌, ℕ, ◌+◌, ◌-◌, ◌<◌, ◌≤◌, inl, inr, false, true, List, ◌++◌, length, take, drop, sym, subst, ap, ◌∙◌, None, arith, append_assoc, take_all}
use Rattle.std.specs.Prelude.{slice_range}
use Rattle.std.proofs.lemmas.Bool.{cases_lt}
use Rattle.std.proofs.lemmas.List.{take-append-drop, take-append-le, drop-append-le, get_or-take, length-append, get_or_past, length-take, length-drop}
use Rattle.r10_packet.specs.Header.{header_bytes}
use Rattle.r10_packet.specs.Framing.{framing_fault, header_fault, header_at, body_at, has_data_checksum}
use Rattle.r10_packet.specs.declared.header.Header.{Header}
use Rattle.r10_packet.proofs.Again.{sound_again}
use Rattle.r10_packet.proofs.Fields.{AreBytes, fields_fit, header_again, header_back}
use Rattle.r10_packet.proofs.NoRuleBroken.{whole_of, lengths_of, no_fault}
use Rattle.r10_packet.proofs.Whole.{found_whole, read_whole, filler_at}
use Rattle.r10_body.specs.Faults.{first_packet}
use Rattle.r10_body.specs.Foreign.{IsForeignPacket, opaque_at, is_opaque_packet}

within : (t r : List ℕ) (a b : ℕ) → a ≤ b → b ≤ length t → slice_range (t ++ r) a b ≡ slice_range t a b
within t r a b h g =
    ap (λ x. take (b - a) x) (drop-append-le a t r (omega arith)) ∙ take-append-le (b - a) (drop a t) r (omega (arith, length-drop a t))

pub first_bytes : (bytes : List ℕ) (n : ℕ) → AreBytes bytes → AreBytes (take n bytes)
first_bytes bytes n fits i = elim (cases_lt i n) [
  | inl under ↦ subst (λ (b : ℕ). b < 256) (sym (get_or-take n bytes i 0 under)) (fits i)
  | inr over ↦ subst (λ (b : ℕ). b < 256) (sym (get_or_past (take n bytes) i 0 (omega (arith, over, length-take n bytes)))) (omega arith)
]

-- a packet that is framed in itself is framed where bytes stand after it
pub record IsFirst (bytes t : List ℕ) : Type 0 where
  pub sound : framing_fault bytes ≡ None
  pub header : header_at bytes ≡ header_at t
  pub body_is : body_at bytes ≡ body_at t

pub stands_first : (t r : List ℕ) → AreBytes t → framing_fault t ≡ None → IsFirst (t ++ r) t
stands_first t r fits sound =
    let h = header_at t in
    let all = t ++ r in
    let whole = whole_of t sound in
    let lengths = lengths_of h whole.sound.lengths in
    let behind : List ℕ = drop 24 t ++ r in
    let back : t ≡ header_bytes h ++ drop 24 t = header_back t whole.long fits whole.sound.sync whole.sound.total in
    let apart : all ≡ header_bytes h ++ behind = ap (λ x. x ++ r) back ∙ append_assoc (header_bytes h) (drop 24 t) r in
    let header : header_at all ≡ h = ap header_at apart ∙ header_again h behind (fields_fit t fits) in
    let long : length all ≡ length t + length r = length-append t r in
    let size : (header_at all).packet_len ≡ h.packet_len = ap (λ (g : Header). g.packet_len) header in
    record {
      sound = no_fault all (omega (arith, whole.long)) (ap header_fault apart ∙ sound_again h behind (fields_fit t fits) whole.sound.lengths) (omega (arith, whole.whole));
      header = header;
      body_is = ap (λ (g : Header). slice_range all 24 (24 + g.data_len)) header ∙ within t r 24 (24 + h.data_len) (omega arith) (omega (arith, whole.whole, lengths.inside, lengths.least));
    }

-- what is known of bytes whose first packet is any recorder's
pub record IsForeignFirst (bytes : List ℕ) : Type 0 where
  pub sound : framing_fault bytes ≡ None
  pub checked : opaque_at bytes ≡ false → has_data_checksum bytes ≡ true

pub foreign_first : (bytes : List ℕ) → AreBytes bytes → IsForeignPacket (first_packet bytes) → IsForeignFirst bytes
foreign_first bytes fits is =
    let n = (header_at bytes).packet_len in
    let t = first_packet bytes in
    let r = drop n bytes in
    let all : t ++ r ≡ bytes = take-append-drop n bytes in
    let own = first_bytes bytes n fits in
    let first = stands_first t r own is.framed in
    let opaque : opaque_at bytes ≡ opaque_at t =
    ap opaque_at (sym all) ∙ ap (λ (g : Header). is_opaque_packet g (body_at (t ++ r))) first.header ∙ ap (is_opaque_packet (header_at t)) first.body_is in
    record {
      sound = ap framing_fault (sym all) ∙ first.sound;
      checked = λ read.
          let found = found_whole t own is.framed (is.checked (sym opaque ∙ read)) in
          let one : take (header_at t).packet_len t ≡ t = take_all (header_at t).packet_len t (omega (arith, is.whole)) in
          let whole = read_whole (filler_at t) (take (header_at t).packet_len t) r (header_at t) (body_at t) found (whole_of t is.framed).sound.lengths in
          ap has_data_checksum (sym all ∙ ap (λ x. x ++ r) (sym one)) ∙ whole.checksum;
    }
