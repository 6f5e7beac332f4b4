-- The bytes of a header and the fields at their places: each gives the other.
use Rattle.std.proofs.Common.{◌≡◌, ℕ, ◌+◌, ◌/◌, ◌%◌, ◌^◌, ◌<◌, ◌≤◌, List, [], ◌∷◌, ◌++◌, length, take, drop, get_or, refl, sym, ap, ◌∙◌, arith}
use Rattle.std.proofs.lemmas.List.{drop-drop, length-drop, get_or-drop}
use Rattle.std.proofs.lemmas.Nat.{from_le_bytes-to_le_bytes_2, from_le_bytes-to_le_bytes_4, from_le_bytes-to_le_bytes_8}
use Rattle.std.specs.Int.{w16, w32, w64, from_le_bytes}
use Rattle.r10_count.specs.Bytes.{le_bytes, u16_at, u32_at, u64_at}
use Rattle.r10_count.specs.Count.{IsCount, stamp}
use Rattle.r10_count.proofs.Fronts.{front_2, front_4, front_8}
use Rattle.r10_packet.specs.Sums.{sum_of_words16}
use Rattle.r10_packet.specs.Header.{FitsHeader, header_fields, header_bytes}
use Rattle.r10_packet.specs.Framing.{header_at}
use Rattle.r10_packet.specs.declared.header.Header.{Header}

-- each is a byte
abbrev pub AreBytes : List ℕ → Type 0
AreBytes bytes = (i : ℕ) → get_or bytes i 0 < 256

AreBytes-drop : (n : ℕ) (bytes : List ℕ) → AreBytes bytes → AreBytes (drop n bytes)
AreBytes-drop n bytes fits i = rw (get_or-drop n bytes i 0) (fits (n + i))

-- the bytes at the front, and the number that they make
back_1 : (xs : List ℕ) → 1 ≤ length xs → AreBytes xs → xs ≡ le_bytes 1 (get_or xs 0 0) ++ drop 1 xs
back_1 [] long fits = absurd (omega arith)
back_1 (a ∷ rest) long fits = (let small : a ≡ a % 256 = omega (arith, fits 0) in ap (λ x. x ∷ rest) small)

back_2 : (xs : List ℕ) → 2 ≤ length xs → AreBytes xs → xs ≡ le_bytes 2 (from_le_bytes w16 xs) ++ drop 2 xs
back_2 [] long fits = absurd (omega arith)
back_2 (a ∷ []) long fits = absurd (omega arith)
back_2 (a ∷ b ∷ rest) long fits = front_2 (a ∷ b ∷ rest) (a ∷ b ∷ []) rest (from_le_bytes w16 (a ∷ b ∷ rest)) long refl refl fits refl

back_4 : (xs : List ℕ) → 4 ≤ length xs → AreBytes xs → xs ≡ le_bytes 4 (from_le_bytes w32 xs) ++ drop 4 xs
back_4 [] long fits = absurd (omega arith)
back_4 (a ∷ []) long fits = absurd (omega arith)
back_4 (a ∷ b ∷ []) long fits = absurd (omega arith)
back_4 (a ∷ b ∷ c ∷ []) long fits = absurd (omega arith)
back_4 (a ∷ b ∷ c ∷ d ∷ rest) long fits = front_4 (a ∷ b ∷ c ∷ d ∷ rest) (a ∷ b ∷ c ∷ d ∷ []) rest (from_le_bytes w32 (a ∷ b ∷ c ∷ d ∷ rest)) long refl refl fits refl

-- the low 48 bits
low_0 : (n : ℕ) → n % 281474976710656 % 256 ≡ n % 256
low_0 n = omega arith

low_1 : (n : ℕ) → n % 281474976710656 / 256 % 256 ≡ n / 256 % 256
low_1 n = omega arith

low_2 : (n : ℕ) → n % 281474976710656 / 65536 % 256 ≡ n / 65536 % 256
low_2 n = omega arith

low_3 : (n : ℕ) → n % 281474976710656 / 16777216 % 256 ≡ n / 16777216 % 256
low_3 n = omega arith

low_4 : (n : ℕ) → n % 281474976710656 / 4294967296 % 256 ≡ n / 4294967296 % 256
low_4 n = omega arith

low_5 : (n : ℕ) → n % 281474976710656 / 1099511627776 % 256 ≡ n / 1099511627776 % 256
low_5 n = omega arith

low_bytes : (n : ℕ) → le_bytes 6 (n % 281474976710656) ≡ le_bytes 6 n
low_bytes n = rw (low_0 n, low_1 n, low_2 n, low_3 n, low_4 n, low_5 n) refl

pub back_6 : (xs : List ℕ) → 8 ≤ length xs → AreBytes xs → xs ≡ le_bytes 6 (from_le_bytes w64 xs % 281474976710656) ++ drop 6 xs
back_6 [] long fits = absurd (omega arith)
back_6 (a ∷ []) long fits = absurd (omega arith)
back_6 (a ∷ b ∷ []) long fits = absurd (omega arith)
back_6 (a ∷ b ∷ c ∷ []) long fits = absurd (omega arith)
back_6 (a ∷ b ∷ c ∷ d ∷ []) long fits = absurd (omega arith)
back_6 (a ∷ b ∷ c ∷ d ∷ e ∷ []) long fits = absurd (omega arith)
back_6 (a ∷ b ∷ c ∷ d ∷ e ∷ f ∷ []) long fits = absurd (omega arith)
back_6 (a ∷ b ∷ c ∷ d ∷ e ∷ f ∷ g ∷ []) long fits = absurd (omega arith)
back_6 (a ∷ b ∷ c ∷ d ∷ e ∷ f ∷ g ∷ h ∷ rest) long fits =
    let n : ℕ = from_le_bytes w64 (a ∷ b ∷ c ∷ d ∷ e ∷ f ∷ g ∷ h ∷ rest) in
    let all : a ∷ b ∷ c ∷ d ∷ e ∷ f ∷ g ∷ h ∷ rest ≡ le_bytes 8 n ++ rest = front_8 (a ∷ b ∷ c ∷ d ∷ e ∷ f ∷ g ∷ h ∷ rest) (a ∷ b ∷ c ∷ d ∷ e ∷ f ∷ g ∷ h ∷ []) rest n long refl refl fits refl in
    let six : a ∷ b ∷ c ∷ d ∷ e ∷ f ∷ [] ≡ le_bytes 6 n = ap (take 6) all in
    ap (λ t. t ++ g ∷ h ∷ rest) (six ∙ sym (low_bytes n))

-- the numbers at an offset
at_1 : (bytes : List ℕ) (k : ℕ) → k + 1 ≤ length bytes → AreBytes bytes → drop k bytes ≡ le_bytes 1 (get_or bytes k 0) ++ drop (k + 1) bytes
at_1 bytes k long fits =
    let here : get_or (drop k bytes) 0 0 ≡ get_or bytes k 0 = get_or-drop k bytes 0 0 ∙ ap (λ i. get_or bytes i 0) (omega arith) in
    back_1 (drop k bytes) (omega (arith, length-drop k bytes)) (AreBytes-drop k bytes fits)
    ∙ ap (λ x. le_bytes 1 x ++ drop 1 (drop k bytes)) here ∙ ap (λ t. le_bytes 1 (get_or bytes k 0) ++ t) (drop-drop 1 k bytes)

at_2 : (bytes : List ℕ) (k : ℕ) → k + 2 ≤ length bytes → AreBytes bytes → drop k bytes ≡ le_bytes 2 (u16_at bytes k) ++ drop (k + 2) bytes
at_2 bytes k long fits =
    back_2 (drop k bytes) (omega (arith, length-drop k bytes)) (AreBytes-drop k bytes fits) ∙ ap (λ t. le_bytes 2 (u16_at bytes k) ++ t) (drop-drop 2 k bytes)

at_4 : (bytes : List ℕ) (k : ℕ) → k + 4 ≤ length bytes → AreBytes bytes → drop k bytes ≡ le_bytes 4 (u32_at bytes k) ++ drop (k + 4) bytes
at_4 bytes k long fits =
    back_4 (drop k bytes) (omega (arith, length-drop k bytes)) (AreBytes-drop k bytes fits) ∙ ap (λ t. le_bytes 4 (u32_at bytes k) ++ t) (drop-drop 4 k bytes)

at_6 : (bytes : List ℕ) (k : ℕ) → k + 8 ≤ length bytes → AreBytes bytes → drop k bytes ≡ le_bytes 6 (u64_at bytes k % 281474976710656) ++ drop (k + 6) bytes
at_6 bytes k long fits =
    back_6 (drop k bytes) (omega (arith, length-drop k bytes)) (AreBytes-drop k bytes fits) ∙ ap (λ t. le_bytes 6 (u64_at bytes k % 281474976710656) ++ t) (drop-drop 6 k bytes)

-- the fields at their places are spelled by the bytes there
fields_back : (bytes : List ℕ) → 24 ≤ length bytes → AreBytes bytes → u16_at bytes 0 ≡ 0xEB25 → bytes ≡ header_fields (header_at bytes) ++ drop 22 bytes
fields_back bytes long fits sync =
    let h = header_at bytes in
    let time : drop 16 bytes ≡ le_bytes 6 h.counter ++ drop 22 bytes = at_6 bytes 16 (omega arith) fits in
    let kind : drop 15 bytes ≡ le_bytes 1 h.data_type ++ drop 16 bytes = at_1 bytes 15 (omega arith) fits in
    let flags : drop 14 bytes ≡ le_bytes 1 h.flags ++ drop 15 bytes = at_1 bytes 14 (omega arith) fits in
    let sequence : drop 13 bytes ≡ le_bytes 1 h.sequence ++ drop 14 bytes = at_1 bytes 13 (omega arith) fits in
    let version : drop 12 bytes ≡ le_bytes 1 h.version ++ drop 13 bytes = at_1 bytes 12 (omega arith) fits in
    let data_len : drop 8 bytes ≡ le_bytes 4 h.data_len ++ drop 12 bytes = at_4 bytes 8 (omega arith) fits in
    let packet_len : drop 4 bytes ≡ le_bytes 4 h.packet_len ++ drop 8 bytes = at_4 bytes 4 (omega arith) fits in
    let channel : drop 2 bytes ≡ le_bytes 2 h.channel ++ drop 4 bytes = at_2 bytes 2 (omega arith) fits in
    let start : bytes ≡ le_bytes 2 (u16_at bytes 0) ++ drop 2 bytes = at_2 bytes 0 (omega arith) fits in
    start ∙ ap (λ n. le_bytes 2 n ++ drop 2 bytes) sync
    ∙ ap (λ t. le_bytes 2 0xEB25 ++ t) (channel
    ∙ ap (λ t. le_bytes 2 h.channel ++ t) (packet_len
    ∙ ap (λ t. le_bytes 4 h.packet_len ++ t) (data_len
    ∙ ap (λ t. le_bytes 4 h.data_len ++ t) (version
    ∙ ap (λ t. le_bytes 1 h.version ++ t) (sequence
    ∙ ap (λ t. le_bytes 1 h.sequence ++ t) (flags
    ∙ ap (λ t. le_bytes 1 h.flags ++ t) (kind ∙ ap (λ t. le_bytes 1 h.data_type ++ t) time)))))))

-- a header that stands first, with what is after it
pub header_back : (bytes : List ℕ) → 24 ≤ length bytes → AreBytes bytes → u16_at bytes 0 ≡ 0xEB25 → u16_at bytes 22 ≡ sum_of_words16 (take 22 bytes)
    → bytes ≡ header_bytes (header_at bytes) ++ drop 24 bytes
unfolding header_bytes
header_back bytes long fits sync total =
    let h = header_at bytes in
    let fields : bytes ≡ header_fields h ++ drop 22 bytes = fields_back bytes long fits sync in
    let front : take 22 bytes ≡ header_fields h = ap (take 22) fields in
    let last : drop 22 bytes ≡ le_bytes 2 (u16_at bytes 22) ++ drop 24 bytes = at_2 bytes 22 (omega arith) fits in
    let sum : u16_at bytes 22 ≡ sum_of_words16 (header_fields h) = total ∙ ap sum_of_words16 front in
    fields ∙ ap (λ t. header_fields h ++ t) (last ∙ ap (λ n. le_bytes 2 n ++ drop 24 bytes) sum)

-- what stands at the places has room in a header
pub fields_fit : (bytes : List ℕ) → AreBytes bytes → FitsHeader (header_at bytes)
fields_fit bytes fits =
    let b = λ (n i : ℕ). AreBytes-drop n bytes fits i in
    record {
      channel = omega (arith, b 2 0, b 2 1);
      packet_len = omega (arith, b 4 0, b 4 1, b 4 2, b 4 3);
      data_len = omega (arith, b 8 0, b 8 1, b 8 2, b 8 3);
      version = fits 12;
      sequence = fits 13;
      flags = fits 14;
      data_type = fits 15;
      counter = omega arith;
    }

-- ---- from a header to its bytes and back

same_header : (h g : Header) → g.channel ≡ h.channel → g.packet_len ≡ h.packet_len → g.data_len ≡ h.data_len → g.version ≡ h.version
    → g.sequence ≡ h.sequence → g.flags ≡ h.flags → g.data_type ≡ h.data_type → g.counter ≡ h.counter → g ≡ h
same_header h g a b c d e f i j =
    ap (λ x. record g { channel = x }) a ∙ ap (λ x. record g { channel = h.channel; packet_len = x }) b
    ∙ ap (λ x. record g { channel = h.channel; packet_len = h.packet_len; data_len = x }) c
    ∙ ap (λ x. record g { channel = h.channel; packet_len = h.packet_len; data_len = h.data_len; version = x }) d
    ∙ ap (λ x. record h { sequence = x; flags = g.flags; data_type = g.data_type; counter = g.counter }) e
    ∙ ap (λ x. record h { flags = x; data_type = g.data_type; counter = g.counter }) f
    ∙ ap (λ x. record h { data_type = x; counter = g.counter }) i ∙ ap (λ x. record h { counter = x }) j

small : (n : ℕ) → n < 2 ^ 8 → n % 256 ≡ n
small n h = omega arith

-- the counter, whatever two bytes stand after it
counter_again : (n s t : ℕ) → IsCount n → from_le_bytes w64 (le_bytes 6 n ++ s ∷ t ∷ []) % 281474976710656 ≡ n
counter_again n s t f =
    let whole : from_le_bytes w64 (stamp n) ≡ n = (let all = from_le_bytes-to_le_bytes_8 n (omega arith) in omega (arith, all)) in
    omega (arith, whole)

-- the header that stands first is read back, whatever stands after it
pub header_again : (h : Header) (rest : List ℕ) → FitsHeader h → header_at (header_bytes h ++ rest) ≡ h
unfolding header_bytes
header_again h rest fits =
    same_header h (header_at (header_bytes h ++ rest)) (from_le_bytes-to_le_bytes_2 h.channel fits.channel) (from_le_bytes-to_le_bytes_4 h.packet_len fits.packet_len)
    (from_le_bytes-to_le_bytes_4 h.data_len fits.data_len) (small h.version fits.version) (small h.sequence fits.sequence) (small h.flags fits.flags)
    (small h.data_type fits.data_type) (counter_again h.counter _ _ fits.counter)

pub sync_again : (h : Header) (rest : List ℕ) → u16_at (header_bytes h ++ rest) 0 ≡ 0xEB25
unfolding header_bytes
sync_again h rest = refl

pub total_again : (h : Header) (rest : List ℕ) → u16_at (header_bytes h ++ rest) 22 ≡ sum_of_words16 (take 22 (header_bytes h ++ rest))
unfolding header_bytes
total_again h rest = from_le_bytes-to_le_bytes_2 (sum_of_words16 (header_fields h)) (omega arith)
