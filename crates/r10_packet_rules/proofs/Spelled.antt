-- A packet of the recorder's is framed, and what is framed so is a packet of the recorder's.
use Rattle.std.proofs.Common.{◌≡◌, ◌↔◌, ℕ, zero, suc, ◌+◌, ◌-◌, ◌/◌, ◌%◌, ◌^◌, ◌<◌, ◌≤◌, inl, inr, Bool, true, false, IsTrue, not, ◌==◌, ◌&&◌, ◌||◌, List, [], ◌∷◌, ◌++◌, length, take, drop, refl, sym, subst, ap, ◌∙◌, None, arith, replicate}
use Rattle.std.specs.Prelude.{slice_range, slice_index, bit_and}
use Rattle.std.proofs.lemmas.Bool.{cases_lt, le-leb, leb-true, eq-eqb, eqb-true, and_parts}
use Rattle.std.proofs.lemmas.List.{take-append-drop, drop-take, drop_at, length-append, length-drop, length-take-le}
use Rattle.std.specs.Str.{bytes_eq}
use Rattle.std.proofs.lemmas.Slice.Eq.{bytes_eq-Decides}
use Rattle.std.proofs.Math.Seq.{take-append_seam}
use Rattle.r10_count.specs.Bytes.{flag_at, bit_of}
use Rattle.r10_packet.specs.Sums.{data_checksum}
use Rattle.r10_packet.specs.Header.{header_bytes, checksum_bits}
use Rattle.r10_packet.specs.Packet.{with_trailer, least_filler}
use Rattle.r10_packet.specs.Framing.{framing_fault, header_at, body_at, has_lengths, has_room_for_checksum, is_right, has_data_checksum}
use Rattle.r10_packet.specs.declared.header.Header.{Header}
use Rattle.r10_packet.proofs.Fields.{AreBytes}
use Rattle.r10_packet.proofs.NoRuleBroken.{whole_of, lengths_of}
use Rattle.r10_packet.proofs.Lengths.{header_length, filled_length}
use Rattle.r10_packet.proofs.Whole.{read_whole, found_whole, filler_at}
use Rattle.r10_body.specs.Bodies.{IsBodyOf}
use Rattle.r10_body.specs.Content.{Content}
use Rattle.r10_body.specs.Packets.{Packet, FitsPacket, flagged, packet_body, packet_rest, packet_bytes, header_of}
use Rattle.r10_body.specs.Rules.{KeepsChecksums}
use Rattle.r10_body.specs.Faults.{KeepsHeader, KeepsFiller, ReadsPacket}
use Rattle.r10_body.proofs.Gaps.{flag_told, flag_sound}
use Rattle.r10_body.proofs.Sentences.{packet_sentence, rest_words}
use Rattle.r10_packet_rules.specs.Header.{packet_of}

-- ---- lists

-- what stands after the first 24 of so many
rest_of : (bytes head tail : List ℕ) (n : ℕ) → length head ≡ 24 → 24 ≤ n → take n bytes ≡ head ++ tail → slice_range bytes 24 n ≡ tail
rest_of bytes head tail n len le e =
    let split : 24 + (n - 24) ≡ n = omega arith in
    sym (drop-take 24 (n - 24) bytes) ∙ ap (λ m. drop 24 (take m bytes)) split ∙ ap (drop 24) e ∙ drop_at head tail 24 len

-- two lists of one length that stand first
same_first : (a b x y : List ℕ) → length a ≡ length b → a ++ x ≡ b ++ y → a ≡ b
same_first a b x y n e = sym (take-append_seam a x) ∙ ap (take (length a)) e ∙ ap (λ m. take m (b ++ y)) n ∙ take-append_seam b y

-- ---- flags

-- the flags that the recorder sets
own_flags_at : (b : Bool) (check : ℕ) → check < 4 → bit_and (flag_at 4 b + check) 0xEC ≡ 0
own_flags_at true zero h = refl
own_flags_at true (suc zero) h = refl
own_flags_at true (suc (suc zero)) h = refl
own_flags_at true (suc (suc (suc zero))) h = refl
own_flags_at false zero h = refl
own_flags_at false (suc zero) h = refl
own_flags_at false (suc (suc zero)) h = refl
own_flags_at false (suc (suc (suc zero))) h = refl
own_flags_at b (suc (suc (suc (suc n)))) h = absurd (omega arith)

-- the two low flags tell the checksum
low_bits : (flags : ℕ) → checksum_bits flags ≡ checksum_bits (flags % 4)
low_bits flags = (let e : flags % 4 ≡ flags % 4 % 4 = omega arith in ap (slice_index (0 ∷ 8 ∷ 16 ∷ 32 ∷ [])) e)

-- other flags than the recorder's are set, or its own make up the number
flags_made : ℕ → Bool
flags_made flags = not (bit_and flags 0xEC == 0) || flags == flag_at 4 (bit_of 4 flags) + flags % 4

all_made : ℕ → Bool
all_made zero = true
all_made (suc n) = flags_made n && all_made n

each_byte : all_made 256 ≡ true
unfolding all_made flags_made
each_byte = refl

made_below : (n flags : ℕ) → flags < n → all_made n ≡ true → flags_made flags ≡ true
unfolding all_made
made_below zero flags lt all = absurd (omega arith)
made_below (suc n) flags lt all = elim (cases_lt flags n) [
  | inl under ↦ made_below n flags under (and_parts (flags_made n) (all_made n) all).1
  | inr over ↦ (let same : n ≡ flags = omega (arith, over) in subst (λ (m : ℕ). flags_made m ≡ true) same (and_parts (flags_made n) (all_made n) all).0)
]

told_flags : (flags : ℕ) → flags < 2 ^ 8 → bit_and flags 0xEC ≡ 0 → flags ≡ flag_at 4 (bit_of 4 flags) + flags % 4
unfolding flags_made
told_flags flags lt none =
    let made : (not (bit_and flags 0xEC == 0) || flags == flag_at 4 (bit_of 4 flags) + flags % 4) ≡ true = made_below 256 flags lt each_byte in
    let plain : (bit_and flags 0xEC == 0) ≡ true = eq-eqb (bit_and flags 0xEC) 0 none in
    eqb-true flags (flag_at 4 (bit_of 4 flags) + flags % 4) (rw plain at made)

-- ---- a packet of the recorder's is framed

rest_long : (bytes : List ℕ) (n : ℕ) → n ≤ length bytes → length (slice_range bytes 24 n) ≡ n - 24
rest_long bytes n le = length-take-le (n - 24) (drop 24 bytes) (omega (arith, length-drop 24 bytes))

pub has_own_lengths : (p : Packet) → FitsPacket p → has_lengths (header_of p) ≡ true
has_own_lengths p fits =
    let n : ℕ = 24 + length (packet_rest p) in
    let words : n % 4 ≡ 0 = omega (arith, rest_words p) in
    let body : length (packet_body p) ≤ n - 24 = omega (arith, filled_length p.check (packet_body p) (least_filler (checksum_bits p.check) (packet_body p))) in
    rw (le-leb 24 n (omega arith), eq-eqb (n % 4) 0 words, le-leb n 524288 fits.short, le-leb (length (packet_body p)) (n - 24) body) refl

pub record IsFramed (bytes : List ℕ) (p : Packet) : Type 0 where
  pub sound : framing_fault bytes ≡ None
  pub header : header_at bytes ≡ header_of p
  pub body_is : body_at bytes ≡ packet_body p
  pub checksum : has_data_checksum bytes ≡ true
  pub keeps : KeepsHeader bytes
  pub filler : KeepsFiller bytes

pub framed : (bytes : List ℕ) (p : Packet) → ReadsPacket bytes p → IsFramed bytes p
framed bytes p (fits, sums, first) =
    let h = header_of p in
    let n = (header_at bytes).packet_len in
    let rest = drop n bytes in
    let filler = least_filler (checksum_bits h.flags) (packet_body p) in
    let sentence = packet_sentence p fits in
    let whole = read_whole filler (packet_bytes p) rest h (packet_body p) sentence (has_own_lengths p fits) in
    let all : packet_bytes p ++ rest ≡ bytes = ap (λ t. t ++ rest) (sym first) ∙ take-append-drop n bytes in
    let header : header_at bytes ≡ h = ap header_at (sym all) ∙ whole.header in
    let body : body_at bytes ≡ packet_body p = ap body_at (sym all) ∙ whole.body_is in
    let flags : (header_at bytes).flags ≡ h.flags = ap (λ (g : Header). g.flags) header in
    let size : n ≡ 24 + length (packet_rest p) = ap (λ (g : Header). g.packet_len) header in
    let version : (header_at bytes).version ≡ 8 = ap (λ (g : Header). g.version) header in
    let behind : slice_range bytes 24 n ≡ with_trailer (checksum_bits h.flags) (packet_body p) filler =
    rest_of bytes (header_bytes h) (with_trailer (checksum_bits h.flags) (packet_body p) filler) n (header_length h) (omega arith) (first ∙ sentence.spelled) in
    record {
      sound = ap framing_fault (sym all) ∙ whole.sound;
      header = header;
      body_is = body;
      checksum = ap has_data_checksum (sym all) ∙ whole.checksum;
      keeps = (version, ap (λ f. bit_and f 0xEC) flags ∙ own_flags_at (flagged p) p.check fits.check, omega (arith, size, fits.short));
      filler = behind ∙ sym (ap (λ f. with_trailer (checksum_bits f) (body_at bytes) (least_filler (checksum_bits f) (body_at bytes))) flags
          ∙ ap (λ b. with_trailer (checksum_bits h.flags) b (least_filler (checksum_bits h.flags) b)) body);
    }

-- ---- what is framed so is a packet of the recorder's

-- the filler is the least where what is after the header is spelled so
filler_kept : (bytes : List ℕ) → AreBytes bytes → framing_fault bytes ≡ None → has_data_checksum bytes ≡ true
    → (filler_at bytes ≡ least_filler (checksum_bits (header_at bytes).flags) (body_at bytes)) ↔ KeepsFiller bytes
filler_kept bytes fits sound checked =
    let h = header_at bytes in
    let bits = checksum_bits h.flags in
    let body = body_at bytes in
    let least = least_filler bits body in
    let found = found_whole bytes fits sound checked in
    let lengths = lengths_of h (whole_of bytes sound).sound.lengths in
    let behind : slice_range bytes 24 h.packet_len ≡ with_trailer bits body (filler_at bytes) =
    rest_of bytes (header_bytes h) (with_trailer bits body (filler_at bytes)) h.packet_len (header_length h) lengths.least found.spelled in (
      λ same. behind ∙ ap (with_trailer bits body) same,
      λ keeps.
          let both : with_trailer bits body (filler_at bytes) ≡ with_trailer bits body least = sym behind ∙ keeps in
          let long : length (with_trailer bits body (filler_at bytes)) ≡ length body + length (filler_at bytes) + bits / 8 = filled_length h.flags body (filler_at bytes) in
          let short : length (with_trailer bits body least) ≡ length body + length least + bits / 8 = filled_length h.flags body least in
          let count : length (filler_at bytes) ≡ length least = omega (arith, ap length both) in
          let fronts : body ++ filler_at bytes ≡ body ++ least =
          same_first (body ++ filler_at bytes) (body ++ least) (data_checksum bits (body ++ filler_at bytes)) (data_checksum bits (body ++ least))
          (length-append body (filler_at bytes) ∙ ap (λ n. length body + n) count ∙ sym (length-append body least)) both in
          sym (drop_at body (filler_at bytes) (length body) refl) ∙ ap (drop (length body)) fronts ∙ drop_at body least (length body) refl,
    )

same_header : (h g : Header) → h.channel ≡ g.channel → h.packet_len ≡ g.packet_len → h.data_len ≡ g.data_len → h.version ≡ g.version
    → h.sequence ≡ g.sequence → h.flags ≡ g.flags → h.data_type ≡ g.data_type → h.counter ≡ g.counter → h ≡ g
same_header h g a b c d e f i j =
    let made : Header = record { channel = g.channel; packet_len = g.packet_len; data_len = g.data_len; version = g.version; sequence = g.sequence; flags = g.flags; data_type = g.data_type; counter = g.counter } in
    let is : record { channel = h.channel; packet_len = h.packet_len; data_len = h.data_len; version = h.version; sequence = h.sequence; flags = h.flags; data_type = h.data_type; counter = h.counter } ≡ made = rw (a, b, c, d, e, f, i, j) refl in is

pub reads_made : (bytes : List ℕ) (content : Content) → AreBytes bytes → framing_fault bytes ≡ None → has_data_checksum bytes ≡ true → KeepsHeader bytes → KeepsFiller bytes
    → IsBodyOf (header_at bytes).data_type (header_at bytes).counter content (body_at bytes) → KeepsChecksums (packet_of (header_at bytes) content)
    → ReadsPacket bytes (packet_of (header_at bytes) content)
unfolding packet_bytes
reads_made bytes content fits sound checked keeps filler is sums =
    let h = header_at bytes in
    let p = packet_of h content in
    let bits = checksum_bits h.flags in
    let body = body_at bytes in
    let found = found_whole bytes fits sound checked in
    let whole = whole_of bytes sound in
    let lengths = lengths_of h whole.sound.lengths in
    let flags : h.flags ≡ flag_at 4 (flagged p) + h.flags % 4 = told_flags h.flags found.fits.flags keeps.1 ∙ ap (λ b. flag_at 4 b + h.flags % 4) (sym (flag_told (bit_of 4 h.flags))) in
    let low : checksum_bits h.flags ≡ checksum_bits (h.flags % 4) = low_bits h.flags in
    let rest : slice_range bytes 24 h.packet_len ≡ packet_rest p =
    filler ∙ ap (λ b. with_trailer b body (least_filler b body)) low ∙ ap (λ b. with_trailer (checksum_bits (h.flags % 4)) b (least_filler (checksum_bits (h.flags % 4)) b)) is.body_is in
    let behind : slice_range bytes 24 h.packet_len ≡ with_trailer bits body (filler_at bytes) =
    rest_of bytes (header_bytes h) (with_trailer bits body (filler_at bytes)) h.packet_len (header_length h) lengths.least found.spelled in
    let long : length (slice_range bytes 24 h.packet_len) ≡ h.packet_len - 24 = rest_long bytes h.packet_len whole.whole in
    let size : h.packet_len ≡ 24 + length (packet_rest p) = omega (arith, long, ap length rest, lengths.least) in
    let header : h ≡ header_of p = same_header h (header_of p) refl size (found.data_len ∙ ap length is.body_is) keeps.0 refl flags (sym is.type_is) refl in (
      record {
        channel = found.fits.channel;
        sequence = found.fits.sequence;
        gap = flag_sound (bit_of 4 h.flags);
        check = omega arith;
        counter = found.fits.counter;
        content = is.fits;
        short = omega (arith, size, keeps.2);
      },
      sums,
      found.spelled ∙ ap (λ t. header_bytes h ++ t) (sym behind ∙ rest) ∙ ap (λ g. header_bytes g ++ packet_rest p) header,
    )

-- ---- the filler that stands there

-- it has room after the body
pub record HasRoom (bytes : List ℕ) : Type 0 where
  pub room : 24 + (header_at bytes).data_len + checksum_bits (header_at bytes).flags / 8 ≤ (header_at bytes).packet_len
  pub whole : (header_at bytes).packet_len ≤ length bytes

pub room_of : (bytes : List ℕ) → framing_fault bytes ≡ None → has_data_checksum bytes ≡ true → HasRoom bytes
room_of bytes sound checked =
    let h = header_at bytes in
    record { room = leb-true (24 + h.data_len + checksum_bits h.flags / 8) h.packet_len (and_parts (has_room_for_checksum h) (is_right h bytes) checked).0; whole = (whole_of bytes sound).whole }

zeros_are : (n : ℕ) → n < 4 → take {A = ℕ} n (0 ∷ 0 ∷ 0 ∷ []) ≡ replicate n 0
zeros_are zero lt = refl
zeros_are (suc zero) lt = refl
zeros_are (suc (suc zero)) lt = refl
zeros_are (suc (suc (suc zero))) lt = refl
zeros_are (suc (suc (suc (suc n)))) lt = absurd (omega arith)

-- so many zeros are the least filler
zeros_least : (bytes : List ℕ) (width : ℕ) → framing_fault bytes ≡ None → width ≡ checksum_bits (header_at bytes).flags / 8
    → take {A = ℕ} ((4 - ((header_at bytes).data_len + width) % 4) % 4) (0 ∷ 0 ∷ 0 ∷ []) ≡ least_filler (checksum_bits (header_at bytes).flags) (body_at bytes)
zeros_least bytes width sound is =
    let h = header_at bytes in
    let whole = whole_of bytes sound in
    let lengths = lengths_of h whole.sound.lengths in
    let long : length (body_at bytes) ≡ 24 + h.data_len - 24 = length-take-le (24 + h.data_len - 24) (drop 24 bytes) (omega (arith, length-drop 24 bytes, whole.whole, lengths.inside, lengths.least)) in
    let same : (4 - (h.data_len + width) % 4) % 4 ≡ (4 - (length (body_at bytes) + checksum_bits h.flags / 8) % 4) % 4 = omega (arith, is, long) in
    zeros_are ((4 - (h.data_len + width) % 4) % 4) (omega arith) ∙ ap (λ n. replicate n 0) same

pub filler_told : (bytes filler : List ℕ) (h : Header) (width : ℕ) (r : Bool) → AreBytes bytes → framing_fault bytes ≡ None → has_data_checksum bytes ≡ true
    → h ≡ header_at bytes → width ≡ checksum_bits (header_at bytes).flags / 8 → filler ≡ slice_range bytes (24 + h.data_len) (h.packet_len - width)
    → r ≡ bytes_eq filler (take ((4 - (h.data_len + width) % 4) % 4) (0 ∷ 0 ∷ 0 ∷ [])) → IsTrue r ↔ KeepsFiller bytes
filler_told bytes filler h width r fits sound checked header wide found is =
    let g = header_at bytes in
    let kept = filler_kept bytes fits sound checked in
    let stands : filler ≡ filler_at bytes =
    found ∙ ap (λ (x : Header). slice_range bytes (24 + x.data_len) (x.packet_len - width)) header ∙ ap (λ n. slice_range bytes (24 + g.data_len) (g.packet_len - n)) wide in
    let zeros : take {A = ℕ} ((4 - (h.data_len + width) % 4) % 4) (0 ∷ 0 ∷ 0 ∷ []) ≡ least_filler (checksum_bits g.flags) (body_at bytes) =
    ap (λ (x : Header). take {A = ℕ} ((4 - (x.data_len + width) % 4) % 4) (0 ∷ 0 ∷ 0 ∷ [])) header ∙ zeros_least bytes width sound wide in (
      λ yes. kept.0 (sym stands ∙ (bytes_eq-Decides _ _).0 (sym is ∙ yes) ∙ zeros),
      λ keeps. is ∙ (bytes_eq-Decides _ _).1 (stands ∙ kept.1 keeps ∙ sym zeros),
    )
