-- Entries of one length at the front of bytes.
use Rattle.std.proofs.Common.{◌≡◌, ℕ, zero, suc, ◌+◌, ◌-◌, ◌*◌, ◌/◌, ◌%◌, ◌^◌, ◌<◌, ◌≤◌, Bool, true, false, cond, nat_eq, List, ◌++◌, refl, sym, ap, ◌∙◌, arith}
use Rattle.r10_count.specs.Bytes.{bit_of, flag_at, le_bytes}
use Rattle.r10_count.specs.Count.{IsCount, stamp}
use Rattle.r10_count.proofs.Fronts.{same_stamp, same_u32}
use Rattle.r10_a429.specs.Arinc.{arinc_entry, arinc_header}
use Rattle.r10_a429.specs.Entry.{FitsBehind, arinc_form}
use Rattle.r10_a429.specs.declared.entry.ArincEntry.{ArincEntry}
use Rattle.r10_discrete.specs.Discrete.{discrete_entry}
use Rattle.r10_discrete.specs.Entry.{FitsFields, discrete_form, has_only}
use Rattle.r10_discrete.specs.declared.entry.DiscreteEntry.{DiscreteEntry}
use Rattle.r10_body.specs.Kinds.{arinc_kind, discrete_kind}
use Rattle.r10_packet_rules.specs.Glance.{IsGlimpse}

-- ---- ARINC 429 words

-- a flag is its bit's part of a number
bit_part : (part bit : ℕ) → bit < 2 → cond (nat_eq bit 1) part 0 ≡ part * bit
bit_part part zero lt = omega arith
bit_part part (suc zero) lt = omega arith
bit_part part (suc (suc n)) lt = absurd (omega (arith, lt))

-- the entry that a header and a word make at a count
abbrev pub arinc_of : ℕ → ℕ → ℕ → ArincEntry
arinc_of count header word = record { count = count; message = record { bus = header / 16777216; format = bit_of 23 header; parity = bit_of 22 header; high = bit_of 21 header; word = word } }

header_of : (count header word : ℕ) → arinc_header (header % 2097152) (arinc_of count header word) ≡ header
header_of count header word =
    let format = bit_part 8388608 (header / 8388608 % 2) (omega arith) in
    let parity = bit_part 4194304 (header / 4194304 % 2) (omega arith) in
    let high = bit_part 2097152 (header / 2097152 % 2) (omega arith) in
    omega (arith, format, parity, high)

-- the word that stands first, by its header
pub arinc_glimpse : (setting before : ℕ) (bytes rest : List ℕ) (count header word : ℕ) → IsCount count → header < 2 ^ 32 → word < 2 ^ 32 → header % 2097152 ≤ 1000000
    → count ≡ before + header % 2097152 → bytes ≡ le_bytes 4 header ++ le_bytes 4 word ++ rest
    → (e : ArincEntry) × IsGlimpse arinc_form arinc_kind.said setting before (arinc_entry (e.count - before) e) (record { count = count; cost = 112 }) e × (bytes ≡ arinc_entry (e.count - before) e ++ rest)
arinc_glimpse setting before bytes rest count header word lc lt lw soon behind is =
    let e = arinc_of count header word in
    let gap : count - before ≡ header % 2097152 = omega (arith, behind) in
    let made : arinc_header (count - before) e ≡ header = ap (λ g. arinc_header g e) gap ∙ header_of count header word in (
      e,
      record {
        fits = record { fields = record { count = lc; bus = omega (arith, lt); word = lw }; soon = (omega (arith, behind), omega (arith, behind, soon)) };
        suits = refl;
        spelled = refl;
        count = refl;
        same = refl;
        cost = refl;
        cheap = omega arith;
      },
      is ∙ ap (λ h. le_bytes 4 h ++ le_bytes 4 word ++ rest) (sym made),
    )

low_header : (format parity high : Bool) (bus gap : ℕ) → gap ≤ 1000000 → (16777216 * bus + flag_at 23 format + flag_at 22 parity + flag_at 21 high + gap) % 2097152 ≡ gap
low_header true true true bus gap soon = omega (arith, soon)
low_header true true false bus gap soon = omega (arith, soon)
low_header true false true bus gap soon = omega (arith, soon)
low_header true false false bus gap soon = omega (arith, soon)
low_header false true true bus gap soon = omega (arith, soon)
low_header false true false bus gap soon = omega (arith, soon)
low_header false false true bus gap soon = omega (arith, soon)
low_header false false false bus gap soon = omega (arith, soon)

header_fits : (format parity high : Bool) (bus gap : ℕ) → bus < 2 ^ 8 → gap ≤ 1000000 → 16777216 * bus + flag_at 23 format + flag_at 22 parity + flag_at 21 high + gap < 2 ^ 32
header_fits true true true bus gap lt soon = omega (arith, lt, soon)
header_fits true true false bus gap lt soon = omega (arith, lt, soon)
header_fits true false true bus gap lt soon = omega (arith, lt, soon)
header_fits true false false bus gap lt soon = omega (arith, lt, soon)
header_fits false true true bus gap lt soon = omega (arith, lt, soon)
header_fits false true false bus gap lt soon = omega (arith, lt, soon)
header_fits false false true bus gap lt soon = omega (arith, lt, soon)
header_fits false false false bus gap lt soon = omega (arith, lt, soon)

-- a word that stands there comes by the header's gap after the one before
pub arinc_told : (before : ℕ) (bytes rest left : List ℕ) (header word : ℕ) (e : ArincEntry) → header < 2 ^ 32 → bytes ≡ le_bytes 4 header ++ le_bytes 4 word ++ rest
    → FitsBehind before e → bytes ≡ arinc_entry (e.count - before) e ++ left → (header % 2097152 ≤ 1000000) × (e.count ≡ before + header % 2097152)
arinc_told before bytes rest left header word e lt is fits other =
    let soon : e.count - before ≤ 1000000 = omega (arith, fits.soon.0, fits.soon.1) in
    let gap = e.count - before in
    let same = same_u32 header (arinc_header gap e) (le_bytes 4 word ++ rest) (le_bytes 4 e.message.word ++ left) lt (header_fits e.message.format e.message.parity e.message.high e.message.bus gap fits.fields.bus soon) (sym is ∙ other) in
    let low : header % 2097152 ≡ gap = ap (λ h. h % 2097152) same.0 ∙ low_header e.message.format e.message.parity e.message.high e.message.bus gap soon in
    (omega (arith, low, soon), omega (arith, low, fits.soon.0))

-- ---- changes of discretes

-- the change that stands first, by its stamp and its states
pub discrete_glimpse : (setting before : ℕ) (bytes rest : List ℕ) (count states : ℕ) → IsCount count → states < 2 ^ 32 → has_only setting states ≡ true
    → bytes ≡ stamp count ++ le_bytes 4 states ++ rest
    → (e : DiscreteEntry) × IsGlimpse discrete_form discrete_kind.said setting before (discrete_entry e) (record { count = count; cost = 116 }) e × (bytes ≡ discrete_entry e ++ rest)
discrete_glimpse setting before bytes rest count states lc lt only is = (
  record { count = count; message = record { states = states } },
  record { fits = record { count = lc; states = lt }; suits = only; spelled = refl; count = refl; same = refl; cost = refl; cheap = omega arith },
  is,
)

-- a change that stands there has these states
pub discrete_told : (bytes rest left : List ℕ) (count states : ℕ) (e : DiscreteEntry) → IsCount count → states < 2 ^ 32 → bytes ≡ stamp count ++ le_bytes 4 states ++ rest
    → FitsFields e → bytes ≡ discrete_entry e ++ left → states ≡ e.message.states
discrete_told bytes rest left count states e lc lt is fits other =
    let first = same_stamp count e.count (le_bytes 4 states ++ rest) (le_bytes 4 e.message.states ++ left) lc fits.count (sym is ∙ other) in
    (same_u32 states e.message.states rest left lt fits.states first.1).0
