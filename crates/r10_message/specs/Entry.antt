-- Messages as entries of a body.
use Rattle.std.specs.Prelude.{◌≡◌, ℕ, ◌+◌, ◌*◌, ◌/◌, ◌%◌, ◌^◌, ◌<◌, ◌==◌, Bool, true, false, Some, List, ◌++◌, length, take}
use Rattle.std.specs.Prelude.{nat_eq, refl}
use Rattle.std.proofs.Common.{arith, lit<, ap, sym, ◌∙◌}
use Rattle.std.proofs.lemmas.Nat.{from_le_bytes-to_le_bytes_4}
use Rattle.r10_count.specs.Bytes.{le_bytes, u32_at, flag_at}
use Rattle.r10_count.proofs.Fronts.{same_stamp, same_u32}
use Rattle.r10_count.specs.Form.{Form, IsEntryBytes}
use Rattle.r10_count.specs.Padding.{padded}
use Rattle.r10_count.specs.Texts.{told_size, told-front, padded-size, same_padded}
use Rattle.r10_message.specs.Message.{message_entry, message_header, message_of, message_entry_size, FitsMessage}
use Rattle.r10_message.specs.declared.entry.MessageEntry.{MessageEntry}

pub message_entry-size : (e : MessageEntry) → length (message_entry e) ≡ message_entry_size e
message_entry-size e = omega (arith, padded-size e.message.bytes)

pub message_word-fits : (n : ℕ) → n % 65536 < 2 ^ 32
message_word-fits n = omega arith

-- a header has 32 bits, and its fields are read from it
abbrev pub message_header_of : Bool → Bool → ℕ → ℕ → ℕ
message_header_of data_error format sub size = flag_at 31 data_error + flag_at 30 format + 65536 * sub + size

pub message_header-fits : (data_error format : Bool) (sub size : ℕ) → sub < 2 ^ 14 → size < 2 ^ 16
    → message_header_of data_error format sub size < 2 ^ 32
message_header-fits true true sub size hs hb = omega arith
message_header-fits true false sub size hs hb = omega arith
message_header-fits false true sub size hs hb = omega arith
message_header-fits false false sub size hs hb = omega arith

pub message_header-low : (data_error format : Bool) (sub size : ℕ) → size < 2 ^ 16
    → message_header_of data_error format sub size % 65536 ≡ size
message_header-low true true sub size h = omega arith
message_header-low true false sub size h = omega arith
message_header-low false true sub size h = omega arith
message_header-low false false sub size h = omega arith

pub header-data_error : (data_error format : Bool) (sub size : ℕ) → sub < 2 ^ 14 → size < 2 ^ 16
    → nat_eq (message_header_of data_error format sub size / 2147483648) 1 ≡ data_error
header-data_error true true sub size hs hb = let q : (2147483648 + 1073741824 + 65536 * sub + size) / 2147483648 ≡ 1 = omega arith
    in rw q refl
header-data_error true false sub size hs hb = let q : (2147483648 + 0 + 65536 * sub + size) / 2147483648 ≡ 1 = omega arith
    in rw q refl
header-data_error false true sub size hs hb = let q : (0 + 1073741824 + 65536 * sub + size) / 2147483648 ≡ 0 = omega arith
    in rw q refl
header-data_error false false sub size hs hb = let q : (0 + 0 + 65536 * sub + size) / 2147483648 ≡ 0 = omega arith in rw q refl

pub header-format : (data_error format : Bool) (sub size : ℕ) → sub < 2 ^ 14 → size < 2 ^ 16
    → nat_eq (message_header_of data_error format sub size / 1073741824 % 2) 1 ≡ format
header-format true true sub size hs hb = let q : (2147483648 + 1073741824 + 65536 * sub + size) / 1073741824 % 2 ≡ 1 = omega arith
    in rw q refl
header-format true false sub size hs hb = let q : (2147483648 + 0 + 65536 * sub + size) / 1073741824 % 2 ≡ 0 = omega arith
    in rw q refl
header-format false true sub size hs hb = let q : (0 + 1073741824 + 65536 * sub + size) / 1073741824 % 2 ≡ 1 = omega arith
    in rw q refl
header-format false false sub size hs hb = let q : (0 + 0 + 65536 * sub + size) / 1073741824 % 2 ≡ 0 = omega arith in rw q refl

pub message_header-sub : (data_error format : Bool) (sub size : ℕ) → sub < 2 ^ 14 → size < 2 ^ 16
    → message_header_of data_error format sub size / 65536 % 16384 ≡ sub
message_header-sub true true sub size hs hb = omega arith
message_header-sub true false sub size hs hb = omega arith
message_header-sub false true sub size hs hb = omega arith
message_header-sub false false sub size hs hb = omega arith

pub same_message_fields : (m n : ℕ) (p q a b : Bool) (i j : ℕ) (s t : List ℕ) → m ≡ n → p ≡ q → a ≡ b → i ≡ j → s ≡ t
    → message_of m p a i s ≡ message_of n q b j t
same_message_fields m n p q a b i j s t counts data_errors formats subs texts = rw (counts, data_errors, formats, subs, texts) refl

pub message_entry-told : (e : MessageEntry) → FitsMessage e → IsEntryBytes 12 told_size (message_entry e)
message_entry-told e fits =
    let size = message_entry-size e in
    let head : u32_at (take 12 (message_entry e)) 8 ≡ message_header e = from_le_bytes-to_le_bytes_4 (message_header e)
    (message_header-fits e.message.data_error e.message.format e.message.sub (length e.message.bytes) fits.sub fits.bytes) in
    let low = message_header-low e.message.data_error e.message.format e.message.sub (length e.message.bytes) fits.bytes in
    (omega (arith, size), ap (λ n. Some n) (omega (arith, size, head, low)))

-- no other entry is spelled so
pub message_entry-one : (e d : MessageEntry) → FitsMessage e → FitsMessage d → message_entry e ≡ message_entry d → e ≡ d
message_entry-one e d fe fd same =
    let first = same_stamp e.count d.count (le_bytes 4 (message_header e) ++ padded e.message.bytes)
    (le_bytes 4 (message_header d) ++ padded d.message.bytes) fe.count fd.count same in
    let second = same_u32 (message_header e) (message_header d) (padded e.message.bytes) (padded d.message.bytes)
    (message_header-fits e.message.data_error e.message.format e.message.sub (length e.message.bytes) fe.sub fe.bytes)
    (message_header-fits d.message.data_error d.message.format d.message.sub (length d.message.bytes) fd.sub fd.bytes) first.1
    in
    let sizes : length e.message.bytes ≡ length d.message.bytes =
    sym (message_header-low e.message.data_error e.message.format e.message.sub (length e.message.bytes) fe.bytes)
    ∙ ap (λ h. h % 65536) second.0 ∙ message_header-low d.message.data_error d.message.format d.message.sub
    (length d.message.bytes) fd.bytes in
    same_message_fields e.count d.count e.message.data_error d.message.data_error e.message.format d.message.format e.message.sub
    d.message.sub e.message.bytes d.message.bytes first.0
    (sym (header-data_error e.message.data_error e.message.format e.message.sub (length e.message.bytes) fe.sub fe.bytes)
    ∙ ap (λ h. nat_eq (h / 2147483648) 1) second.0 ∙ header-data_error d.message.data_error d.message.format d.message.sub
    (length d.message.bytes) fd.sub fd.bytes)
    (sym (header-format e.message.data_error e.message.format e.message.sub (length e.message.bytes) fe.sub fe.bytes)
    ∙ ap (λ h. nat_eq (h / 1073741824 % 2) 1) second.0 ∙ header-format d.message.data_error d.message.format d.message.sub
    (length d.message.bytes) fd.sub fd.bytes)
    (sym (message_header-sub e.message.data_error e.message.format e.message.sub (length e.message.bytes) fe.sub fe.bytes)
    ∙ ap (λ h. h / 65536 % 16384) second.0 ∙ message_header-sub d.message.data_error d.message.format d.message.sub
    (length d.message.bytes) fd.sub fd.bytes)
    (same_padded e.message.bytes d.message.bytes sizes second.1)

abbrev pub message_form : Form MessageEntry
message_form = record {
  front = 12;
  reported = told_size;
  count = λ e. e.count;
  spelled = λ before e. message_entry e;
  size = message_entry_size;
  Fits = λ before e. FitsMessage e;
  opens = λ counter e. true;
  suits = λ setting e. true;
  word = λ setting n. n % 65536;
  agrees = λ word n. word % 65536 == n;
  some = lit< tt;
  covers = told-front;
  sized = λ before e fits. message_entry-size e;
  tells = λ before e. message_entry-told e;
  one = λ before e d. message_entry-one e d;
  alone = λ e. refl;
  worded = λ setting. message_word-fits;
}
