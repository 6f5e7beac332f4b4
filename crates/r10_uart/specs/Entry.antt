-- UART messages as entries of a body.
use Rattle.std.specs.Prelude.{◌≡◌, ℕ, ◌+◌, ◌*◌, ◌/◌, ◌%◌, ◌^◌, ◌<◌, Bool, true, false, Some, List, ◌++◌, length, take, nat_eq, refl}
use Rattle.std.proofs.Common.{arith, lit<, ap, sym, ◌∙◌}
use Rattle.std.proofs.lemmas.Nat.{from_le_bytes-to_le_bytes_4}
use Rattle.r10_count.specs.Bytes.{le_bytes, u32_at, flag_at}
use Rattle.r10_count.proofs.Fronts.{same_stamp, same_u32}
use Rattle.r10_count.specs.Form.{Form, IsEntryBytes}
use Rattle.r10_count.specs.Padding.{padded}
use Rattle.r10_count.specs.Texts.{told_size, told-front, padded-size, same_padded}
use Rattle.r10_uart.specs.Uart.{uart_entry, uart_header, uart_of, uart_entry_size, FitsUart}
use Rattle.r10_uart.specs.declared.entry.UartEntry.{UartEntry}

pub uart_entry-size : (e : UartEntry) → length (uart_entry e) ≡ uart_entry_size e
uart_entry-size e = omega (arith, padded-size e.message.bytes)

-- a header has 32 bits, and its fields are read from it
pub uart_header-fits : (parity : Bool) (sub size : ℕ) → sub < 2 ^ 14 → size < 2 ^ 16
    → flag_at 31 parity + 65536 * sub + size < 2 ^ 32
uart_header-fits true sub size hs hb = omega arith
uart_header-fits false sub size hs hb = omega arith

pub uart_header-low : (parity : Bool) (sub size : ℕ) → size < 2 ^ 16 → (flag_at 31 parity + 65536 * sub + size) % 65536 ≡ size
uart_header-low true sub size h = omega arith
uart_header-low false sub size h = omega arith

pub header-parity : (parity : Bool) (sub size : ℕ) → sub < 2 ^ 14 → size < 2 ^ 16
    → nat_eq ((flag_at 31 parity + 65536 * sub + size) / 2147483648) 1 ≡ parity
header-parity true sub size hs hb = let q : (2147483648 + 65536 * sub + size) / 2147483648 ≡ 1 = omega arith in rw q refl
header-parity false sub size hs hb = let q : (0 + 65536 * sub + size) / 2147483648 ≡ 0 = omega arith in rw q refl

pub uart_header-sub : (parity : Bool) (sub size : ℕ) → sub < 2 ^ 14 → size < 2 ^ 16
    → (flag_at 31 parity + 65536 * sub + size) / 65536 % 16384 ≡ sub
uart_header-sub true sub size hs hb = omega arith
uart_header-sub false sub size hs hb = omega arith

pub header-free : (parity : Bool) (sub size : ℕ) → sub < 2 ^ 14 → size < 2 ^ 16
    → (flag_at 31 parity + 65536 * sub + size) / 1073741824 % 2 ≡ 0
header-free true sub size hs hb = omega arith
header-free false sub size hs hb = omega arith

pub same_uart_fields : (m n : ℕ) (p q : Bool) (i j : ℕ) (s t : List ℕ) → m ≡ n → p ≡ q → i ≡ j → s ≡ t
    → uart_of m p i s ≡ uart_of n q j t
same_uart_fields m n p q i j s t counts parities subs texts = rw (counts, parities, subs, texts) refl

pub uart_entry-told : (e : UartEntry) → FitsUart e → IsEntryBytes 12 told_size (uart_entry e)
uart_entry-told e fits =
    let size = uart_entry-size e in
    let head : u32_at (take 12 (uart_entry e)) 8 ≡ uart_header e = from_le_bytes-to_le_bytes_4 (uart_header e)
    (uart_header-fits e.message.parity e.message.sub (length e.message.bytes) fits.sub fits.bytes) in
    let low = uart_header-low e.message.parity e.message.sub (length e.message.bytes) fits.bytes in
    (omega (arith, size), ap (λ n. Some n) (omega (arith, size, head, low)))

-- no other entry is spelled so
pub uart_entry-one : (e d : UartEntry) → FitsUart e → FitsUart d → uart_entry e ≡ uart_entry d → e ≡ d
uart_entry-one e d fe fd same =
    let first = same_stamp e.count d.count (le_bytes 4 (uart_header e) ++ padded e.message.bytes)
    (le_bytes 4 (uart_header d) ++ padded d.message.bytes) fe.count fd.count same in
    let second = same_u32 (uart_header e) (uart_header d) (padded e.message.bytes) (padded d.message.bytes)
    (uart_header-fits e.message.parity e.message.sub (length e.message.bytes) fe.sub fe.bytes)
    (uart_header-fits d.message.parity d.message.sub (length d.message.bytes) fd.sub fd.bytes) first.1 in
    let sizes : length e.message.bytes ≡ length d.message.bytes =
    sym (uart_header-low e.message.parity e.message.sub (length e.message.bytes) fe.bytes) ∙ ap (λ h. h % 65536) second.0
    ∙ uart_header-low d.message.parity d.message.sub (length d.message.bytes) fd.bytes in
    same_uart_fields e.count d.count e.message.parity d.message.parity e.message.sub d.message.sub e.message.bytes d.message.bytes
    first.0
    (sym (header-parity e.message.parity e.message.sub (length e.message.bytes) fe.sub fe.bytes)
    ∙ ap (λ h. nat_eq (h / 2147483648) 1) second.0 ∙ header-parity d.message.parity d.message.sub
    (length d.message.bytes) fd.sub fd.bytes)
    (sym (uart_header-sub e.message.parity e.message.sub (length e.message.bytes) fe.sub fe.bytes)
    ∙ ap (λ h. h / 65536 % 16384) second.0 ∙ uart_header-sub d.message.parity d.message.sub
    (length d.message.bytes) fd.sub fd.bytes)
    (same_padded e.message.bytes d.message.bytes sizes second.1)

abbrev pub uart_form : Form UartEntry
uart_form = record {
  front = 12;
  reported = told_size;
  count = λ e. e.count;
  spelled = λ before e. uart_entry e;
  size = uart_entry_size;
  Fits = λ before e. FitsUart e;
  opens = λ counter e. true;
  suits = λ setting e. true;
  word = λ setting n. 0x80000000;
  agrees = λ word n. true;
  some = lit< tt;
  covers = told-front;
  sized = λ before e fits. uart_entry-size e;
  tells = λ before e. uart_entry-told e;
  one = λ before e d. uart_entry-one e d;
  alone = λ e. refl;
  worded = λ setting n. lit< tt;
}
