-- An entry's header and its fields.
use Rattle.std.proofs.Common.{◌≡◌, ℕ, ◌+◌, ◌*◌, ◌^◌, ◌<◌, List, ◌++◌, length, sym, ap, ◌∙◌, arith}
use Rattle.r10_count.specs.Bytes.{le_bytes}
use Rattle.r10_count.specs.Count.{stamp, IsCount}
use Rattle.r10_count.specs.Padding.{padded}
use Rattle.r10_count.proofs.Fronts.{same_stamp, same_u32}
use Rattle.r10_uart.specs.Uart.{FitsUartHeader, FitsUart, uart_header_bits, header_of_uart, uart_header, uart_entry, uart_of}
use Rattle.r10_uart.specs.Entry.{uart_header-fits}
use Rattle.r10_uart.specs.declared.entry.UartEntry.{UartEntry}
use Rattle.r10_uart.specs.declared.header.UartHeader.{UartHeader}

-- the entry that a header and bytes make
abbrev pub entry_of : ℕ → UartHeader → List ℕ → UartEntry
entry_of count h text = uart_of count h.parity h.sub text

pub entry_read : (bytes rest behind text : List ℕ) (count header : ℕ) (h : UartHeader) → IsCount count → FitsUartHeader h → header ≡ uart_header_bits h
    → bytes ≡ stamp count ++ rest → rest ≡ le_bytes 4 header ++ behind → behind ≡ padded text → length text ≡ h.length
    → FitsUart (entry_of count h text) × (bytes ≡ uart_entry (entry_of count h text))
entry_read bytes rest behind text count header h lc fits reported e1 e2 e3 n =
    let is : uart_header (entry_of count h text) ≡ header = omega (arith, n, reported) in
    let low = fits.length in (
      record { count = lc; sub = fits.sub; bytes = omega (arith, n) },
      e1 ∙ ap (λ t. stamp count ++ t) (e2 ∙ ap (λ t. le_bytes 4 header ++ t) e3) ∙ ap (λ n. stamp count ++ le_bytes 4 n ++ padded text) (sym is),
    )

-- no entry has a header that has no parts
pub no_entry : (bytes rest behind text : List ℕ) (count header : ℕ) (e : UartEntry) → IsCount count → header < 2 ^ 32 → ((h : UartHeader) → FitsUartHeader h → header ≡ uart_header_bits h → ⊥)
    → bytes ≡ stamp count ++ rest → rest ≡ le_bytes 4 header ++ behind → FitsUart e → bytes ≡ uart_entry e ++ text → ⊥
no_entry bytes rest behind text count header e lc lt none e1 e2 fits is =
    let first = same_stamp count e.count rest (le_bytes 4 (uart_header e) ++ padded e.message.bytes ++ text) lc fits.count (sym e1 ∙ is) in
    let second = same_u32 header (uart_header e) behind (padded e.message.bytes ++ text) lt (uart_header-fits e.message.parity e.message.sub (length e.message.bytes) fits.sub fits.bytes) (sym e2 ∙ first.1) in
    none (header_of_uart e) (record { sub = fits.sub; length = fits.bytes }) second.0
