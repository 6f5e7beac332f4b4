-- Whole packets: a packet sentence is read as what it says, and what is read without a fault is one.
use Rattle.std.proofs.Common.{◌≡◌, ◌↔◌, ℕ, ◌+◌, ◌-◌, ◌/◌, ◌≤◌, Bool, true, false, ◌&&◌, List, ◌++◌, length, take, drop, refl, sym, ap, ◌∙◌, None, arith, append_assoc}
use Rattle.std.specs.Prelude.{slice_range, if◌then◌else◌}
use Rattle.std.proofs.Math.Seq.{take-add}
use Rattle.std.proofs.lemmas.Bool.{le-leb, leb-true, and_parts}
use Rattle.std.proofs.lemmas.List.{length-append, length-take-le, length-drop, drop-drop, drop_at, take_at}
use Rattle.std.proofs.lemmas.Slice.Eq.{bytes_eq-Decides}
use Rattle.r10_packet.specs.Sums.{data_checksum}
use Rattle.r10_packet.specs.Header.{header_bytes, checksum_bits}
use Rattle.r10_packet.specs.Packet.{with_trailer, IsPacketWith}
use Rattle.r10_packet.specs.Framing.{header_at, body_at, has_lengths, has_room_for_checksum, is_right, has_data_checksum, data_sum_of, checksum_start, header_fault, framing_fault}
use Rattle.r10_packet.specs.declared.header.Header.{Header}
use Rattle.r10_packet.specs.declared.view.DataSum.TheVariants.{NoRoom, Wrong, Right}
use Rattle.r10_packet.proofs.Fields.{AreBytes, header_back, fields_fit, header_again}
use Rattle.r10_packet.proofs.NoRuleBroken.{lengths_of, whole_of, no_fault}
use Rattle.r10_packet.proofs.Lengths.{header_length, checksum_length, filled_length}
use Rattle.r10_packet.proofs.Again.{sound_again}

-- ---- parts of a list

range_split : (xs : List ℕ) (a b c : ℕ) → a ≤ b → b ≤ c → slice_range xs a c ≡ slice_range xs a b ++ slice_range xs b c
range_split xs a b c h g =
    let sum : c - a ≡ (b - a) + (c - b) = omega arith in
    let place : a + (b - a) ≡ b = omega arith in
    ap (λ n. take n (drop a xs)) sum ∙ take-add (b - a) (c - b) (drop a xs)
    ∙ ap (λ t. take (b - a) (drop a xs) ++ take (c - b) t) (drop-drop (b - a) a xs ∙ ap (λ n. drop n xs) place)

-- what stands after the first 24
behind : (head xs : List ℕ) (start end : ℕ) → length head ≡ 24 → 24 ≤ start → slice_range (head ++ xs) start end ≡ slice_range xs (start - 24) (end - 24)
behind head xs start end len h =
    let place : start ≡ 24 + (start - 24) = omega arith in
    let count : end - start ≡ end - 24 - (start - 24) = omega arith in
    ap (λ n. take n (drop start (head ++ xs))) count
    ∙ ap (λ t. take (end - 24 - (start - 24)) t) (ap (λ n. drop n (head ++ xs)) place ∙ sym (drop-drop (start - 24) 24 (head ++ xs)) ∙ ap (drop (start - 24)) (drop_at head xs 24 len))

front_part : (a xs : List ℕ) (end : ℕ) → end ≡ length a → slice_range (a ++ xs) 0 end ≡ a
front_part a xs end e = take_at a xs (end - 0) (omega arith)

next_part : (a b xs : List ℕ) (start end : ℕ) → start ≡ length a → end ≡ start + length b → slice_range (a ++ (b ++ xs)) start end ≡ b
next_part a b xs start end e f =
    let count : length b ≡ end - start = omega arith in
    ap (take (end - start)) (drop_at a (b ++ xs) start (sym e)) ∙ take_at b xs (end - start) count

-- ---- a sentence is read

pub record IsReadWhole (bytes : List ℕ) (h : Header) (body : List ℕ) : Type 0 where
  pub sound : framing_fault bytes ≡ None
  pub header : header_at bytes ≡ h
  pub body_is : body_at bytes ≡ body
  pub checksum : has_data_checksum bytes ≡ true

pub right_of : (h : Header) (bytes : List ℕ) → (has_room_for_checksum h && is_right h bytes) ≡ true → data_sum_of h bytes ≡ Right
right_of h bytes e = (let p = and_parts (has_room_for_checksum h) (is_right h bytes) e in rw (p.0, p.1) refl)

told_by : (room right : Bool) → (if room then (if right then Right else Wrong) else NoRoom) ≡ Right → (room && right) ≡ true
told_by true true e = refl
told_by true false e = absurd (cc)
told_by false right e = absurd (cc)

pub right_iff : (h : Header) (bytes : List ℕ) → (data_sum_of h bytes ≡ Right) ↔ ((has_room_for_checksum h && is_right h bytes) ≡ true)
right_iff h bytes = (told_by (has_room_for_checksum h) (is_right h bytes), right_of h bytes)

pub read_whole : (filler packet rest : List ℕ) (h : Header) (body : List ℕ) → IsPacketWith filler packet h body → has_lengths h ≡ true → IsReadWhole (packet ++ rest) h body
read_whole filler packet rest h body is lengths =
    let head = header_bytes h in
    let bits = checksum_bits h.flags in
    let sum = data_checksum bits (body ++ filler) in
    let inside = with_trailer bits body filler in
    let all = packet ++ rest in
    let head_length : length head ≡ 24 = header_length h in
    let sum_length : length sum ≡ bits / 8 = checksum_length h.flags (body ++ filler) in
    let covered_length : length (body ++ filler) ≡ length body + length filler = length-append body filler in
    let inside_length : length inside ≡ length body + length filler + bits / 8 = filled_length h.flags body filler in
    let packet_length : h.packet_len ≡ 24 + length inside = is.packet_len ∙ ap length is.spelled ∙ length-append head inside ∙ ap (λ n. n + length inside) head_length in
    let apart : all ≡ head ++ (inside ++ rest) = ap (λ t. t ++ rest) is.spelled ∙ append_assoc head inside rest in
    let spread : inside ++ rest ≡ (body ++ filler) ++ (sum ++ rest) = append_assoc (body ++ filler) sum rest in
    let bodies : inside ++ rest ≡ body ++ (filler ++ (sum ++ rest)) = spread ∙ append_assoc body filler (sum ++ rest) in
    let header : header_at all ≡ h = ap header_at apart ∙ header_again h (inside ++ rest) is.fits in
    let sound = ap header_fault apart ∙ sound_again h (inside ++ rest) is.fits lengths in
    let long : length all ≡ 24 + length (inside ++ rest) = ap length apart ∙ length-append head (inside ++ rest) ∙ ap (λ n. n + length (inside ++ rest)) head_length in
    let more : length (inside ++ rest) ≡ length inside + length rest = length-append inside rest in
    let size : (header_at all).packet_len ≡ h.packet_len = ap (λ (g : Header). g.packet_len) header in
    let start : ℕ = checksum_start h in
    let body_is : slice_range all 24 (24 + h.data_len) ≡ body =
    ap (λ t. slice_range t 24 (24 + h.data_len)) apart ∙ behind head (inside ++ rest) 24 (24 + h.data_len) head_length (omega arith)
    ∙ ap (λ t. slice_range t 0 (24 + h.data_len - 24)) bodies ∙ front_part body (filler ++ (sum ++ rest)) (24 + h.data_len - 24) (omega (arith, is.data_len)) in
    let covered : slice_range all 24 start ≡ body ++ filler =
    ap (λ t. slice_range t 24 start) apart ∙ behind head (inside ++ rest) 24 start head_length (omega arith)
    ∙ ap (λ t. slice_range t 0 (start - 24)) spread ∙ front_part (body ++ filler) (sum ++ rest) (start - 24) (omega arith) in
    let reported : slice_range all start h.packet_len ≡ sum =
    ap (λ t. slice_range t start h.packet_len) apart ∙ behind head (inside ++ rest) start h.packet_len head_length (omega arith)
    ∙ ap (λ t. slice_range t (start - 24) (h.packet_len - 24)) spread
    ∙ next_part (body ++ filler) sum rest (start - 24) (h.packet_len - 24) (omega arith) (omega arith) in
    let room : has_room_for_checksum h ≡ true = le-leb (24 + h.data_len + bits / 8) h.packet_len (omega (arith, is.data_len)) in
    let right : is_right h all ≡ true = (bytes_eq-Decides _ _).1 (reported ∙ ap (data_checksum bits) (sym covered)) in
    let checked : (has_room_for_checksum h && is_right h all) ≡ true = rw (room, right) refl in
    record {
      sound = no_fault all (omega arith) sound (omega arith);
      header = header;
      body_is = ap (λ (g : Header). slice_range all 24 (24 + g.data_len)) header ∙ body_is;
      checksum = ap (λ (g : Header). has_room_for_checksum g && is_right g all) header ∙ checked;
    }

-- ---- what is read is a sentence

-- what stands between the body and its checksum
abbrev pub filler_at : List ℕ → List ℕ
filler_at bytes = slice_range bytes (24 + (header_at bytes).data_len) (checksum_start (header_at bytes))

pub found_whole : (bytes : List ℕ) → AreBytes bytes → framing_fault bytes ≡ None → has_data_checksum bytes ≡ true
    → IsPacketWith (filler_at bytes) (take (header_at bytes).packet_len bytes) (header_at bytes) (body_at bytes)
found_whole bytes fits sound checked =
    let h = header_at bytes in
    let bits = checksum_bits h.flags in
    let n = h.packet_len in
    let start : ℕ = checksum_start h in
    let whole = whole_of bytes sound in
    let lengths = lengths_of h whole.sound.lengths in
    let has = and_parts (has_room_for_checksum h) (is_right h bytes) checked in
    let room : 24 + h.data_len + bits / 8 ≤ n = leb-true (24 + h.data_len + bits / 8) n has.0 in
    let back : bytes ≡ header_bytes h ++ drop 24 bytes = header_back bytes whole.long fits whole.sound.sync whole.sound.total in
    let front : take 24 bytes ≡ header_bytes h = ap (take 24) back ∙ take_at (header_bytes h) (drop 24 bytes) 24 (header_length h) in
    let split : n ≡ 24 + (n - 24) = omega (arith, lengths.least) in
    let first : take n bytes ≡ header_bytes h ++ slice_range bytes 24 n = ap (λ m. take m bytes) split ∙ take-add 24 (n - 24) bytes ∙ ap (λ t. t ++ slice_range bytes 24 n) front in
    let inner : slice_range bytes 24 start ≡ body_at bytes ++ filler_at bytes = range_split bytes 24 (24 + h.data_len) start (omega arith) (omega arith) in
    let reported : slice_range bytes start n ≡ data_checksum bits (slice_range bytes 24 start) = (bytes_eq-Decides _ _).0 has.1 in
    let rest : slice_range bytes 24 n ≡ with_trailer bits (body_at bytes) (filler_at bytes) =
    range_split bytes 24 start n (omega arith) (omega arith) ∙ ap (λ t. slice_range bytes 24 start ++ t) reported ∙ ap (λ t. t ++ data_checksum bits t) inner in
    let body_length : length (body_at bytes) ≡ 24 + h.data_len - 24 = length-take-le (24 + h.data_len - 24) (drop 24 bytes) (omega (arith, length-drop 24 bytes, whole.whole)) in
    record {
      fits = fields_fit bytes fits;
      spelled = first ∙ ap (λ t. header_bytes h ++ t) rest;
      packet_len = sym (length-take-le n bytes whole.whole);
      data_len = omega (arith, body_length);
    }
