-- Words of 16 bits, and the fields before them.
use Rattle.std.proofs.Common.{◌≡◌, ℕ, zero, suc, ◌*◌, ◌^◌, ◌<◌, ◌≤◌, ◌%◌, List, [], ◌∷◌, ◌++◌, length, get_or, sym, ◌∙◌, ap, arith, bit_and, length-append}
use Rattle.std.specs.List.{AllByRecursion}
use Rattle.std.proofs.lemmas.List.{append-nil}
use Rattle.r10_count.specs.Bytes.{le_bytes}
use Rattle.r10_count.specs.Count.{IsCount, stamp}
use Rattle.r10_count.proofs.Fronts.{same_stamp, same_u16}
use Rattle.r10_b1553.specs.Bus.{FitsBus, named_bits, words_low_first, bus_entry, bus_of}
use Rattle.r10_b1553.specs.Entry.{words-size, status-fits}
use Rattle.r10_b1553.specs.declared.entry.BusEntry.{BusEntry}

pub all_fit : (words : List ℕ) → ((i : ℕ) → get_or words i 0 < 2 ^ 16) → AllByRecursion (λ w. w < 2 ^ 16) words
all_fit [] h = tt
all_fit (w ∷ words) h = (h zero, all_fit words (λ i. h (suc i)))

-- of an even number of bytes no single one is left
pub all_words : (bytes rest words : List ℕ) → length bytes % 2 ≡ 0 → length rest < 2 → bytes ≡ words_low_first words ++ rest → bytes ≡ words_low_first words
all_words bytes [] words even short e = e ∙ append-nil (words_low_first words)
all_words bytes (b ∷ []) words even short e = absurd (omega (arith, ap length e, length-append (words_low_first words) (b ∷ []), words-size words))
all_words bytes (b ∷ d ∷ rest) words even short e = absurd (omega arith)

-- the fields of an entry that bytes are
pub fields_are : (bytes rest behind : List ℕ) (count status gap size : ℕ) (e : BusEntry) → IsCount count → status < 2 ^ 16 → gap < 2 ^ 16 → size < 2 ^ 16
    → bytes ≡ stamp count ++ rest → rest ≡ le_bytes 2 status ++ le_bytes 2 gap ++ le_bytes 2 size ++ behind → FitsBus e → bytes ≡ bus_entry e
    → (status ≡ e.message.status) × (size ≡ 2 * length e.message.words) × (behind ≡ words_low_first e.message.words)
fields_are bytes rest behind count status gap size e hc hs hg hz e1 e2 fits is =
    let few = fits.few in
    let lengths = le_bytes 2 (2 * length e.message.words) ++ words_low_first e.message.words in
    let counts = same_stamp count e.count rest (le_bytes 2 e.message.status ++ le_bytes 2 e.message.gap ++ lengths) hc fits.count (sym e1 ∙ is) in
    let statuses = same_u16 status e.message.status (le_bytes 2 gap ++ le_bytes 2 size ++ behind) (le_bytes 2 e.message.gap ++ lengths) hs (status-fits e.message.status fits.status) (sym e2 ∙ counts.1) in
    let gaps = same_u16 gap e.message.gap (le_bytes 2 size ++ behind) lengths hg fits.gap statuses.1 in
    let sizes = same_u16 size (2 * length e.message.words) behind (words_low_first e.message.words) hz (omega arith) gaps.1 in
    (statuses.0, sizes.0, sizes.1)

-- the entry that fields and words make
pub entry_read : (bytes rest behind words : List ℕ) (count status gap size : ℕ) → IsCount count → bit_and status named_bits ≡ status → gap < 2 ^ 16 → size ≤ 72
    → bytes ≡ stamp count ++ rest → rest ≡ le_bytes 2 status ++ le_bytes 2 gap ++ le_bytes 2 size ++ behind
    → behind ≡ words_low_first words → AllByRecursion (λ w. w < 2 ^ 16) words → length behind ≡ size
    → FitsBus (bus_of count status gap words) × (bytes ≡ bus_entry (bus_of count status gap words))
entry_read bytes rest behind words count status gap size hc named hg hz e1 e2 e3 fit long =
    let twice : size ≡ 2 * length words = omega (arith, words-size words, ap length e3) in (
      record { count = hc; status = named; gap = hg; few = omega arith; words = fit },
      e1 ∙ ap (λ t. stamp count ++ t) (e2 ∙ ap (λ t. le_bytes 2 status ++ le_bytes 2 gap ++ le_bytes 2 size ++ t) e3)
          ∙ ap (λ n. stamp count ++ le_bytes 2 status ++ le_bytes 2 gap ++ le_bytes 2 n ++ words_low_first words) twice,
    )
