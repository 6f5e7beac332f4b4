-- The entries of the kinds whose messages have bytes, at the front of bytes.
use Rattle.std.proofs.Common.{◌≡◌, ℕ, ◌+◌, ◌%◌, ◌^◌, ◌<◌, List, ◌++◌, length, refl, ap, ◌∙◌, arith}
use Rattle.r10_count.specs.Bytes.{le_bytes}
use Rattle.r10_count.specs.Count.{IsCount, stamp}
use Rattle.r10_count.specs.Padding.{padded}
use Rattle.r10_uart.specs.Uart as uarts
use Rattle.r10_uart.specs.Uart.{uart_entry}
use Rattle.r10_uart.specs.Entry.{uart_form, uart_entry-size, uart_header-low}
use Rattle.r10_uart.specs.declared.entry.UartEntry.{UartEntry}
use Rattle.r10_uart.specs.declared.header.UartHeader.{UartHeader}
use Rattle.r10_uart.proofs.Entries.{entry_of as uart_entry_of, entry_read as uart_read}
use Rattle.r10_message.specs.Message as messages
use Rattle.r10_message.specs.Message.{message_entry}
use Rattle.r10_message.specs.Entry.{message_form, message_entry-size, message_header-low}
use Rattle.r10_message.specs.declared.entry.MessageEntry.{MessageEntry}
use Rattle.r10_message.specs.declared.header.MessageHeader.{MessageHeader}
use Rattle.r10_message.proofs.Entries.{entry_of as message_entry_of, entry_read as message_read}
use Rattle.r10_body.specs.Kinds.{message_kind, uart_kind}
use Rattle.r10_packet_rules.specs.Glance.{IsGlimpse}

-- the entry that stands first, by its stamp and its header
pub uart_glimpse : (setting before : ℕ) (bytes text rest : List ℕ) (count header : ℕ) (h : UartHeader) → IsCount count → uarts.FitsUartHeader h → header ≡ uarts.uart_header_bits h → length text ≡ header % 65536
    → bytes ≡ stamp count ++ le_bytes 4 header ++ padded text ++ rest
    → (e : UartEntry) × IsGlimpse uart_form uart_kind.said setting before (uart_entry e) (record { count = count; cost = 116 + h.length }) e × (bytes ≡ uart_entry e ++ rest)
uart_glimpse setting before bytes text rest count header h lc fits reported n is =
    let long : length text ≡ h.length = n ∙ ap (λ k. k % 65536) reported ∙ uart_header-low h.parity h.sub h.length fits.length in
    let e = uart_entry_of count h text in
    let read = uart_read (stamp count ++ le_bytes 4 header ++ padded text) (le_bytes 4 header ++ padded text) (padded text) text count header h lc fits reported refl refl refl long in (
      e,
      record { fits = read.0; suits = refl; spelled = refl; count = refl; same = refl; cost = omega (arith, long); cheap = omega (arith, uart_entry-size e, long) },
      is ∙ ap (λ t. t ++ rest) read.1,
    )

pub message_glimpse : (setting before : ℕ) (bytes text rest : List ℕ) (count header : ℕ) (h : MessageHeader) → IsCount count → messages.FitsMessageHeader h → header ≡ messages.message_header_bits h → length text ≡ header % 65536
    → bytes ≡ stamp count ++ le_bytes 4 header ++ padded text ++ rest
    → (e : MessageEntry) × IsGlimpse message_form message_kind.said setting before (message_entry e) (record { count = count; cost = 116 + h.length }) e × (bytes ≡ message_entry e ++ rest)
message_glimpse setting before bytes text rest count header h lc fits reported n is =
    let long : length text ≡ h.length = n ∙ ap (λ k. k % 65536) reported ∙ message_header-low h.data_error h.format h.sub h.length fits.length in
    let e = message_entry_of count h text in
    let read = message_read (stamp count ++ le_bytes 4 header ++ padded text) (le_bytes 4 header ++ padded text) (padded text) text count header h lc fits reported refl refl refl long in (
      e,
      record { fits = read.0; suits = refl; spelled = refl; count = refl; same = refl; cost = omega (arith, long); cheap = omega (arith, message_entry-size e, long) },
      is ∙ ap (λ t. t ++ rest) read.1,
    )
