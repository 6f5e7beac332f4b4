-- The entry of a bus message at the front of bytes.
use Rattle.std.proofs.Common.{◌≡◌, ℕ, zero, suc, ◌+◌, ◌*◌, ◌%◌, ◌/◌, ◌^◌, ◌<◌, ◌≤◌, List, [], ◌∷◌, ◌++◌, length, get_or, bit_and, lit<, refl, sym, subst, ap, ◌∙◌, arith}
use Rattle.std.specs.Int.{from_le_bytes, w16}
use Rattle.std.specs.List.{AllByRecursion}
use Rattle.r10_count.specs.Bytes.{le_bytes}
use Rattle.r10_count.specs.Count.{IsCount, stamp}
use Rattle.r10_count.proofs.Fronts.{front_2, same_stamp, same_u16}
use Rattle.r10_b1553.specs.Bus.{FitsBus, bus_entry, bus_of, named_bits, words_low_first}
use Rattle.r10_b1553.specs.Entry.{bus_form, bus_entry-size, status-fits}
use Rattle.r10_b1553.specs.declared.entry.BusEntry.{BusEntry}
use Rattle.r10_body.specs.Kinds.{bus_kind}
use Rattle.r10_packet_rules.specs.Glance.{IsGlimpse}

-- an even number of bytes are words
words_of : (n : ℕ) (bytes : List ℕ) → length bytes ≡ 2 * n → ((i : ℕ) → get_or bytes i 0 < 256)
    → (words : List ℕ) × AllByRecursion (λ w. w < 2 ^ 16) words × (length words ≡ n) × (bytes ≡ words_low_first words)
words_of zero [] e fits = ([], tt, refl, refl)
words_of zero (b ∷ bytes) e fits = absurd (omega (arith, e))
words_of (suc n) [] e fits = absurd (omega (arith, e))
words_of (suc n) (a ∷ []) e fits = absurd (omega (arith, e))
words_of (suc n) (a ∷ b ∷ bytes) e fits =
    let w = from_le_bytes w16 (a ∷ b ∷ []) in
    let left = words_of n bytes (omega (arith, e)) (λ i. fits (suc (suc i))) in
    let front : a ∷ b ∷ bytes ≡ le_bytes 2 w ++ bytes = front_2 (a ∷ b ∷ bytes) (a ∷ b ∷ []) bytes w (omega arith) refl refl fits refl in
    (w ∷ left.0, (omega (arith, fits zero, fits (suc zero)), left.1), ap suc left.2, front ∙ ap (λ t. le_bytes 2 w ++ t) left.3)

-- the message that stands first, by its fields and the bytes of its words
pub bus_glimpse : (setting before : ℕ) (bytes text rest : List ℕ) (count status gap size : ℕ) → IsCount count → bit_and status named_bits ≡ status → gap < 2 ^ 16
    → size ≤ 72 → (size % 2 ≡ 1 → ⊥) → length text ≡ size → ((i : ℕ) → get_or text i 0 < 256)
    → bytes ≡ stamp count ++ le_bytes 2 status ++ le_bytes 2 gap ++ le_bytes 2 size ++ text ++ rest
    → (e : BusEntry) × IsGlimpse bus_form bus_kind.said setting before (bus_entry e) (record { count = count; cost = 118 + size }) e × (bytes ≡ bus_entry e ++ rest)
bus_glimpse setting before bytes text rest count status gap size lc named lg most even n fits is =
    let words = words_of (size / 2) text (omega (arith, n, even)) fits in
    let e = bus_of count status gap words.0 in
    let twice : size ≡ 2 * length words.0 = omega (arith, words.2, even) in (
      e,
      record {
        fits = record { count = lc; status = named; gap = lg; few = omega (arith, twice, most); words = words.1 };
        suits = refl;
        spelled = refl;
        count = refl;
        same = refl;
        cost = omega (arith, twice);
        cheap = omega (arith, bus_entry-size e, twice);
      },
      is ∙ ap (λ t. stamp count ++ le_bytes 2 status ++ le_bytes 2 gap ++ le_bytes 2 size ++ t ++ rest) words.3
          ∙ ap (λ k. stamp count ++ le_bytes 2 status ++ le_bytes 2 gap ++ le_bytes 2 k ++ words_low_first words.0 ++ rest) twice,
    )

-- a message that stands there has this status and so many bytes of words
pub bus_told : (bytes text rest left : List ℕ) (count status gap size : ℕ) (e : BusEntry) → IsCount count → status < 2 ^ 16 → gap < 2 ^ 16 → size < 2 ^ 16
    → bytes ≡ stamp count ++ le_bytes 2 status ++ le_bytes 2 gap ++ le_bytes 2 size ++ text ++ rest → FitsBus e → bytes ≡ bus_entry e ++ left
    → (status ≡ e.message.status) × (size ≡ 2 * length e.message.words)
bus_told bytes text rest left count status gap size e lc ls lg lz is fits other =
    let few = fits.few in
    let words = words_low_first e.message.words ++ left in
    let counts = same_stamp count e.count (le_bytes 2 status ++ le_bytes 2 gap ++ le_bytes 2 size ++ text ++ rest) (le_bytes 2 e.message.status ++ le_bytes 2 e.message.gap ++ le_bytes 2 (2 * length e.message.words) ++ words)
    lc fits.count (sym is ∙ other) in
    let statuses = same_u16 status e.message.status (le_bytes 2 gap ++ le_bytes 2 size ++ text ++ rest) (le_bytes 2 e.message.gap ++ le_bytes 2 (2 * length e.message.words) ++ words) ls (status-fits e.message.status fits.status) counts.1 in
    let gaps = same_u16 gap e.message.gap (le_bytes 2 size ++ text ++ rest) (le_bytes 2 (2 * length e.message.words) ++ words) lg fits.gap statuses.1 in
    let sizes = same_u16 size (2 * length e.message.words) (text ++ rest) words lz (omega arith) gaps.1 in
    (statuses.0, sizes.0)

-- ---- bytes are below 256

rest_fits : (head tail : List ℕ) → ((i : ℕ) → get_or (head ++ tail) i 0 < 256) → (i : ℕ) → get_or tail i 0 < 256
rest_fits [] tail fits i = fits i
rest_fits (b ∷ head) tail fits i = rest_fits head tail (λ k. fits (suc k)) i

front_fits : (front tail : List ℕ) → ((i : ℕ) → get_or (front ++ tail) i 0 < 256) → (i : ℕ) → get_or front i 0 < 256
front_fits [] tail fits i = lit< tt
front_fits (b ∷ front) tail fits zero = fits zero
front_fits (b ∷ front) tail fits (suc i) = front_fits front tail (λ k. fits (suc k)) i

-- also those of a part
part_fits : (bytes head text left : List ℕ) → ((i : ℕ) → get_or bytes i 0 < 256) → bytes ≡ head ++ (text ++ left) → (i : ℕ) → get_or text i 0 < 256
part_fits bytes head text left fits is = front_fits text left (rest_fits head (text ++ left) (subst (λ (t : List ℕ). (i : ℕ) → get_or t i 0 < 256) is fits))

-- ---- the parts of a message

-- a message by its parts, one after the other
bus_is : (bytes behind_stamp behind_status behind_gap behind text left : List ℕ) (count status gap size : ℕ) → bytes ≡ stamp count ++ behind_stamp → behind_stamp ≡ le_bytes 2 status ++ behind_status
    → behind_status ≡ le_bytes 2 gap ++ behind_gap → behind_gap ≡ le_bytes 2 size ++ behind → behind ≡ text ++ left
    → bytes ≡ stamp count ++ le_bytes 2 status ++ le_bytes 2 gap ++ le_bytes 2 size ++ text ++ left
bus_is bytes behind_stamp behind_status behind_gap behind text left count status gap size e1 e2 e3 e4 e5 =
    let words : behind_gap ≡ le_bytes 2 size ++ text ++ left = e4 ∙ ap (λ t. le_bytes 2 size ++ t) e5 in
    let gaps : behind_status ≡ le_bytes 2 gap ++ le_bytes 2 size ++ text ++ left = e3 ∙ ap (λ t. le_bytes 2 gap ++ t) words in
    let statuses : behind_stamp ≡ le_bytes 2 status ++ le_bytes 2 gap ++ le_bytes 2 size ++ text ++ left = e2 ∙ ap (λ t. le_bytes 2 status ++ t) gaps in
    e1 ∙ ap (λ t. stamp count ++ t) statuses

-- the front of a message, after it the bytes of its words, and what is left
pub bus_found : (bytes behind_stamp behind_status behind_gap behind text left : List ℕ) (count status gap size : ℕ) → ((i : ℕ) → get_or bytes i 0 < 256)
    → bytes ≡ stamp count ++ behind_stamp → behind_stamp ≡ le_bytes 2 status ++ behind_status → behind_status ≡ le_bytes 2 gap ++ behind_gap → behind_gap ≡ le_bytes 2 size ++ behind
    → behind ≡ text ++ left → length text ≡ size
    → (words : List ℕ) × (length words ≡ size) × ((i : ℕ) → get_or words i 0 < 256) × (bytes ≡ stamp count ++ le_bytes 2 status ++ le_bytes 2 gap ++ le_bytes 2 size ++ words ++ left)
bus_found bytes behind_stamp behind_status behind_gap behind text left count status gap size fits e1 e2 e3 e4 e5 n =
    let is = bus_is bytes behind_stamp behind_status behind_gap behind text left count status gap size e1 e2 e3 e4 e5 in
    (text, n, part_fits bytes (stamp count ++ le_bytes 2 status ++ le_bytes 2 gap ++ le_bytes 2 size) text left fits is, is)
