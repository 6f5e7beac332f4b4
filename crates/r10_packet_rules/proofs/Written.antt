-- What the recorder writes is what any recorder may have written.
use Rattle.std.proofs.Common.{◌≡◌, ℕ, ◌+◌, ◌-◌, ◌/◌, ◌%◌, ◌^◌, ◌<◌, ◌≤◌, ◌==◌, Bool, true, false, not, ◌||◌, cond, List, [], ◌∷◌, ◌++◌, length, map, count_by, refl, sym, ap, ◌∙◌, subst, arith, append-nil, lit<}
use Rattle.std.specs.Prelude.{nat_le}
use Rattle.std.proofs.lemmas.List.Sums.{sum_by-cons}
use Rattle.std.proofs.lemmas.Nat.{from_le_bytes-to_le_bytes_4}
use Rattle.std.specs.List.{AllByRecursion, concat, flat_map, list_any}
use Rattle.r10_count.specs.Bytes.{le_bytes, u32_at, flag_at, bit_of}
use Rattle.r10_count.specs.Civil.{is_leap}
use Rattle.r10_packet.specs.Header.{checksum_bits}
use Rattle.r10_packet.specs.Packet.{least_filler}
use Rattle.r10_packet.specs.Framing.{body_at}
use Rattle.r10_packet.specs.declared.header.Header.{Header}
use Rattle.r10_packet.proofs.Whole.{IsReadWhole, read_whole}
use Rattle.r10_timebody.specs.Time as time_bodies
use Rattle.r10_event.specs.Event as event_bodies
use Rattle.r10_indexbody.specs.Index as index_bodies
use Rattle.r10_message.specs.Message as message_bodies
use Rattle.r10_uart.specs.Uart as uart_bodies
use Rattle.r10_body.proofs.Lenient.{strict-lenient}
use Rattle.r10_body.specs.Content.{Content, setup, time, event, uart, message, node, root, type_of, body_of, messages_of, FitsContent}
use Rattle.r10_body.specs.Files.{IsStrict}
use Rattle.r10_body.specs.Foreign.{known_types, is_loss_report, selects_other, is_opaque_packet, opaque_at, IsForeignBody, IsForeignPacket, IsForeignFile}
use Rattle.r10_body.specs.Packets.{Packet, FitsPacket, flagged, packet_body, packet_bytes, header_of}
use Rattle.r10_body.proofs.Sentences.{packet_sentence}
use Rattle.r10_body.proofs.Rules.{follows_fit}
use Rattle.r10_packet_rules.proofs.Spelled.{has_own_lengths}
use Rattle.std.proofs.lemmas.Bool.{and_right, or_from}

-- ---- no packet of the recorder's is opaque

none_of : (a b c d e f : Bool) → a ≡ false → b ≡ false → c ≡ false → d ≡ false → e ≡ false → f ≡ false → (a || b || c || d || e || f) ≡ false
none_of a b c d e f p q r s t u = rw (p, q, r, s, t, u) refl

bit_is : (place n m : ℕ) → n / 2 ^ place ≡ m → bit_of place n ≡ (m % 2 == 1)
bit_is place n m e = ap (λ k. k % 2 == 1) e

-- the word at the front of a body
word_at : (word : ℕ) (rest : List ℕ) → word < 2 ^ 32 → u32_at (le_bytes 4 word ++ rest) 0 ≡ word
word_at word rest lt = from_le_bytes-to_le_bytes_4 word lt

flags_clear : (b : Bool) (check : ℕ) → check < 4 → (bit_of 7 (flag_at 4 b + check) ≡ false) × (bit_of 6 (flag_at 4 b + check) ≡ false)
flags_clear true check lt = (bit_is 7 (16 + check) 0 (omega (arith, lt)), bit_is 6 (16 + check) 0 (omega (arith, lt)))
flags_clear false check lt = (bit_is 7 (0 + check) 0 (omega (arith, lt)), bit_is 6 (0 + check) 0 (omega (arith, lt)))

time_small : (leap : Bool) → cond leap 0x301 0x201 < 2 ^ 32
time_small true = lit< tt
time_small false = lit< tt

time_present : (leap : Bool) → bit_of 9 (cond leap 0x301 0x201) ≡ true
time_present true = refl
time_present false = refl

node_clear : (n : ℕ) (rest : List ℕ) → n < 2 ^ 16 → index_bodies.is_opaque_index (le_bytes 4 (2 ^ 31 + n) ++ rest) ≡ false
node_clear n rest lt =
    let word = word_at (2 ^ 31 + n) rest (omega (arith, lt)) in
    and_right _ _ (or_from _ _ (ap (bit_of 30) word ∙ bit_is 30 (2 ^ 31 + n) 2 (omega (arith, lt))) (ap (bit_of 29) word ∙ bit_is 29 (2 ^ 31 + n) 4 (omega (arith, lt))))

root_clear : (n : ℕ) (rest : List ℕ) → n < 2 ^ 16 → index_bodies.is_opaque_index (le_bytes 4 n ++ rest) ≡ false
root_clear n rest lt =
    let word = word_at n rest (omega (arith, lt)) in
    and_right _ _ (or_from _ _ (ap (bit_of 30) word ∙ bit_is 30 n 0 (omega (arith, lt))) (ap (bit_of 29) word ∙ bit_is 29 n 0 (omega (arith, lt))))

message_clear : (n : ℕ) (rest : List ℕ) → n < 2 ^ 16 → message_bodies.is_opaque_message (le_bytes 4 n ++ rest) ≡ false
message_clear n rest lt =
    let word = word_at n rest (omega (arith, lt)) in
    let none : n / 65536 ≡ 0 = omega (arith, lt) in
    and_right _ _ (ap (λ w. not (w / 65536 % 4 == 0)) word ∙ ap (λ k. not (k % 4 == 0)) none)

unselected : (counter : ℕ) (content : Content) → FitsContent counter content → selects_other (type_of content) (body_of counter content) ≡ false
unselected counter (setup text) fits = none_of _ _ _ _ _ _ (and_right (type_of (setup text) == 1) _ (and_right (nat_le 4 (length (body_of counter (setup text)))) _ (ap (bit_of 9) (word_at 0x0C text (lit< tt))))) refl refl refl refl refl
unselected counter (event e) fits = none_of _ _ _ _ _ _ refl (and_right (type_of (event e) == 2) _ (and_right (nat_le 4 (length (body_of counter (event e)))) _ (ap (bit_of 31) (word_at 1 (event_bodies.event_entry_bytes e) (lit< tt))))) refl refl refl refl
unselected counter (time civil) fits =
    let leap : Bool = is_leap civil.year in
    let word : u32_at (time_bodies.time_body civil) 0 ≡ cond leap 0x301 0x201 = from_le_bytes-to_le_bytes_4 (cond leap 0x301 0x201) (time_small leap) in
    none_of _ _ _ _ _ _ refl refl refl (and_right (type_of (time civil) == 17) _ (and_right (nat_le 4 (length (body_of counter (time civil)))) _ (ap (λ w. not (bit_of 9 w)) word ∙ ap not (time_present leap)))) refl refl
unselected counter (uart entries) fits =
    none_of _ _ _ _ _ _ refl refl refl refl refl (and_right (type_of (uart entries) == 80) _ (and_right (nat_le 4 (length (body_of counter (uart entries)))) _ (ap (λ w. not (bit_of 31 w)) (word_at 0x80000000 (flat_map uart_bodies.uart_entry entries) (lit< tt)))))
unselected counter (message entries) fits =
    none_of _ _ _ _ _ _ refl refl refl refl (and_right (type_of (message entries) == 48) _ (message_clear (length entries) (flat_map message_bodies.message_entry entries) fits.counted)) refl
unselected counter (node entries) fits =
    none_of _ _ _ _ _ _ refl refl (and_right (type_of (node entries) == 3) _ (node_clear (length entries) (flat_map index_bodies.node_entry entries) fits.counted)) refl refl refl
unselected counter (root entries) fits =
    none_of _ _ _ _ _ _ refl refl (and_right (type_of (root entries) == 3) _ (root_clear (length entries) (flat_map index_bodies.root_entry entries) fits.counted)) refl refl refl
unselected counter content fits = refl

known : (counter : ℕ) (content : Content) → not (list_any (λ type. type == type_of content) known_types || is_loss_report (type_of content) (body_of counter content)) ≡ false
known counter (setup text) = refl
known counter content = refl

four : (a b c d : Bool) → a ≡ false → b ≡ false → c ≡ false → d ≡ false → (a || b || c || d) ≡ false
four a b c d p q r s = rw (p, q, r, s) refl

header_clear : (p : Packet) → FitsPacket p → is_opaque_packet (header_of p) (packet_body p) ≡ false
header_clear p fits =
    let flags = flags_clear (flagged p) p.check fits.check in
    four _ _ _ _ flags.0 flags.1 (known p.counter p.content) (unselected p.counter p.content fits.content)

-- ---- a packet of the recorder's is one of any

read_alone : (p : Packet) → FitsPacket p → IsReadWhole (packet_bytes p) (header_of p) (packet_body p)
read_alone p fits =
    subst (λ t. IsReadWhole t (header_of p) (packet_body p)) (append-nil (packet_bytes p))
    (read_whole (least_filler (checksum_bits (header_of p).flags) (packet_body p)) (packet_bytes p) [] (header_of p) (packet_body p) (packet_sentence p fits) (has_own_lengths p fits))

pub packet_clear : (p : Packet) → FitsPacket p → opaque_at (packet_bytes p) ≡ false
packet_clear p fits =
    let read = read_alone p fits in
    ap (λ (h : Header). is_opaque_packet h (body_at (packet_bytes p))) read.header ∙ ap (is_opaque_packet (header_of p)) read.body_is ∙ header_clear p fits

pub body_foreign : (p : Packet) → FitsPacket p → IsForeignBody (type_of p.content) (packet_body p)
body_foreign p fits =
    strict-lenient (type_of p.content) p.counter (packet_body p) (messages_of p.counter p.content)
    (p.content, record { type_is = refl; fits = fits.content; body_is = refl }, refl)

pub packet_foreign : (p : Packet) → FitsPacket p → IsForeignPacket (packet_bytes p)
packet_foreign p fits =
    let read = read_alone p fits in
    record {
      framed = read.sound;
      whole = ap (λ (h : Header). h.packet_len) read.header ∙ (packet_sentence p fits).packet_len;
      checked = λ _. read.checksum;
      body = λ _.
          let same : IsForeignBody (header_of p).data_type (body_at (packet_bytes p)) = subst (λ t. IsForeignBody (type_of p.content) t) (sym read.body_is) (body_foreign p fits) in
          subst (λ (h : Header). IsForeignBody h.data_type (body_at (packet_bytes p))) (sym read.header) same;
    }

-- ---- a file

joined : (ps : List Packet) → flat_map packet_bytes ps ≡ concat (map packet_bytes ps)
joined [] = refl
joined (p ∷ ps) = ap (λ t. packet_bytes p ++ t) (joined ps)

all_foreign : (ps : List Packet) → AllByRecursion FitsPacket ps → AllByRecursion IsForeignPacket (map packet_bytes ps)
all_foreign [] fits = tt
all_foreign (p ∷ ps) fits = (packet_foreign p fits.0, all_foreign ps fits.1)

none_opaque : (ps : List Packet) → AllByRecursion FitsPacket ps → 0 ≡ count_by opaque_at (map packet_bytes ps)
none_opaque [] fits = refl
none_opaque (p ∷ ps) fits =
    let count : List ℕ → ℕ = λ t. cond (opaque_at t) 1 0 in
    let first : count (packet_bytes p) ≡ 0 = ap (λ b. cond b 1 0) (packet_clear p fits.0) in
    let more : count_by opaque_at (map packet_bytes (p ∷ ps)) ≡ count (packet_bytes p) + count_by opaque_at (map packet_bytes ps) = sum_by-cons count (packet_bytes p) (map packet_bytes ps) in
    omega (arith, first, more, none_opaque ps fits.1)

some_first : (ps : List Packet) → 2 ≤ length ps → 0 < length (map packet_bytes ps)
some_first [] some = absurd (omega (arith, some))
some_first (p ∷ ps) some = omega arith

pub strict_foreign : (bytes : List ℕ) → IsStrict bytes → IsForeignFile bytes 0
strict_foreign bytes is =
    let packets = is.3.0 in
    let says = is.3.2 in
    let fits = follows_fit [] packets says.file.each in
    (map packet_bytes packets, is.3.1 ∙ joined packets, some_first packets says.file.start, all_foreign packets fits, none_opaque packets fits)
