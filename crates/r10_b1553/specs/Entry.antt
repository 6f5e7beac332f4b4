-- Bus messages as entries of a body.
use Rattle.std.specs.Prelude.{◌≡◌, ℕ, ◌+◌, ◌*◌, ◌%◌, ◌^◌, ◌<◌, ◌≤◌, ◌==◌, Bool, true, false, cond, Some, None, List, [], ◌∷◌, ◌++◌}
use Rattle.std.specs.Prelude.{length, take, bit_and, refl}
use Rattle.std.proofs.Common.{arith, lit<, ap, sym, ◌∙◌}
use Rattle.std.proofs.lemmas.Bool.{eq-eqb}
use Rattle.std.proofs.lemmas.Nat.{from_le_bytes-to_le_bytes_2, and_le_r}
use Rattle.std.specs.List.{AllByRecursion}
use Rattle.r10_count.specs.Bytes.{le_bytes, u16_at}
use Rattle.r10_count.proofs.Fronts.{same_stamp, same_u16}
use Rattle.r10_count.specs.Form.{Form, IsEntryBytes}
use Rattle.r10_b1553.specs.Bus.{bus_entry, bus_of, bus_entry_size, named_bits, words_low_first, bus_told_size, bus_told_bytes}
use Rattle.r10_b1553.specs.Bus.{FitsBus}
use Rattle.r10_b1553.specs.declared.entry.BusEntry.{BusEntry}

told_even : (even : Bool) (bytes n : ℕ) → cond even (Some (14 + bytes)) None ≡ Some n → 14 ≤ n
told_even true bytes n e = let is : 14 + bytes ≡ n = cc in omega arith
told_even false bytes n e = absurd cc

pub bus_told-front : (front : List ℕ) (n : ℕ) → bus_told_size front ≡ Some n → 14 ≤ n
bus_told-front front n e = told_even (bus_told_bytes front % 2 == 0) (bus_told_bytes front) n e

pub bus_word-fits : (n : ℕ) → n % 16777216 < 2 ^ 32
bus_word-fits n = omega arith

-- two bytes a word
pub words-size : (words : List ℕ) → length (words_low_first words) ≡ 2 * length words
words-size [] = refl
words-size (w ∷ words) = omega (arith, words-size words)

-- the words of bytes
pub words-one : (v w : List ℕ) → AllByRecursion (λ x. x < 2 ^ 16) v → AllByRecursion (λ x. x < 2 ^ 16) w
    → words_low_first v ≡ words_low_first w → v ≡ w
words-one [] [] hv hw e = refl
words-one [] (b ∷ w) hv hw e = absurd (omega (arith, ap length e))
words-one (a ∷ v) [] hv hw e = absurd (omega (arith, ap length e))
words-one (a ∷ v) (b ∷ w) hv hw e =
    let first = same_u16 a b (words_low_first v) (words_low_first w) hv.0 hw.0 e in
    let rest : v ≡ w = words-one v w hv.1 hw.1 first.1 in
    rw (first.0, rest) refl

pub bus_entry-size : (e : BusEntry) → length (bus_entry e) ≡ bus_entry_size e
bus_entry-size e = omega (arith, words-size e.message.words)

pub even-told : (front : List ℕ) (n : ℕ) → bus_told_bytes front ≡ 2 * n → bus_told_size front ≡ Some (14 + 2 * n)
even-told front n is =
    let even : (2 * n % 2 == 0) ≡ true = eq-eqb (2 * n % 2) 0 (omega arith) in
    rw is (rw even refl)

pub bus_entry-told : (e : BusEntry) → FitsBus e → IsEntryBytes 14 bus_told_size (bus_entry e)
bus_entry-told e fits =
    let size = bus_entry-size e in
    let few = fits.few in
    let head : u16_at (take 14 (bus_entry e)) 12 ≡ 2 * length e.message.words =
    from_le_bytes-to_le_bytes_2 (2 * length e.message.words) (omega arith) in
    (omega (arith, size), even-told (take 14 (bus_entry e)) (length e.message.words) head ∙ ap (λ n. Some n) (sym size))

-- the bits that have a name are among the lower 14
pub status-fits : (status : ℕ) → bit_and status named_bits ≡ status → status < 2 ^ 16
status-fits status named = omega (arith, and_le_r status named_bits)

pub same_bus_fields : (m n p q i j : ℕ) (s t : List ℕ) → m ≡ n → p ≡ q → i ≡ j → s ≡ t → bus_of m p i s ≡ bus_of n q j t
same_bus_fields m n p q i j s t counts statuses gaps words = rw (counts, statuses, gaps, words) refl

-- no other entry is spelled so
pub bus_entry-one : (e d : BusEntry) → FitsBus e → FitsBus d → bus_entry e ≡ bus_entry d → e ≡ d
bus_entry-one e d fe fd same =
    let few_e = fe.few in
    let few_d = fd.few in
    let lengths_e = le_bytes 2 (2 * length e.message.words) ++ words_low_first e.message.words in
    let lengths_d = le_bytes 2 (2 * length d.message.words) ++ words_low_first d.message.words in
    let counts = same_stamp e.count d.count (le_bytes 2 e.message.status ++ le_bytes 2 e.message.gap ++ lengths_e)
    (le_bytes 2 d.message.status ++ le_bytes 2 d.message.gap ++ lengths_d) fe.count fd.count same in
    let statuses = same_u16 e.message.status d.message.status (le_bytes 2 e.message.gap ++ lengths_e)
    (le_bytes 2 d.message.gap ++ lengths_d) (status-fits e.message.status fe.status)
    (status-fits d.message.status fd.status) counts.1 in
    let gaps = same_u16 e.message.gap d.message.gap lengths_e lengths_d fe.gap fd.gap statuses.1 in
    let sizes = same_u16 (2 * length e.message.words) (2 * length d.message.words) (words_low_first e.message.words)
    (words_low_first d.message.words) (omega arith) (omega arith) gaps.1 in
    same_bus_fields e.count d.count e.message.status d.message.status e.message.gap d.message.gap e.message.words d.message.words
    counts.0 statuses.0 gaps.0 (words-one e.message.words d.message.words fe.words fd.words sizes.1)

abbrev pub bus_form : Form BusEntry
bus_form = record {
  front = 14;
  reported = bus_told_size;
  count = λ e. e.count;
  spelled = λ before e. bus_entry e;
  size = bus_entry_size;
  Fits = λ before e. FitsBus e;
  opens = λ counter e. true;
  suits = λ setting e. true;
  word = λ setting n. n % 16777216;
  agrees = λ word n. word % 16777216 == n;
  some = lit< tt;
  covers = bus_told-front;
  sized = λ before e fits. bus_entry-size e;
  tells = λ before e. bus_entry-told e;
  one = λ before e d. bus_entry-one e d;
  alone = λ e. refl;
  worded = λ setting. bus_word-fits;
}
