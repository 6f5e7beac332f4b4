-- The body of a UART packet: the channel specific data word, then for each message an intra-packet time stamp, an intra-packet
-- data header and the bytes.
use Rattle.std.specs.Prelude.{◌≡◌, ℕ, ◌+◌, ◌*◌, ◌%◌, ◌^◌, ◌<◌, Bool, not, ◌&&◌, nat_le, List, ◌++◌, length}
use Rattle.std.specs.List.{flat_map, AllByRecursion, concat}
use Rattle.r10_count.specs.Bytes.{le_bytes, flag_at, u32_at, bit_of}
use Rattle.r10_count.specs.Count.{IsCount, stamp}
use Rattle.r10_count.specs.Form.{IsEntryBytes}
use Rattle.r10_count.specs.Padding.{padded}
use Rattle.r10_count.specs.Texts.{told_size}
use Rattle.r10_uart.specs.declared.entry.UartEntry.{UartEntry}
use Rattle.r10_uart.specs.declared.header.UartHeader.{UartHeader}
use Rattle.r10_uart.specs.declared.message.UartMessage.{UartMessage}

-- the word says that stamps are present
abbrev pub uart_word : List ℕ
uart_word = le_bytes 4 0x80000000

-- the 32 bits of a header: parity error, a bit that must be 0, subchannel and length
abbrev pub uart_header_bits : UartHeader → ℕ
uart_header_bits h = flag_at 31 h.parity + 2 ^ 16 * h.sub + h.length

-- the ranges of its parts
pub record FitsUartHeader (h : UartHeader) : Type 0 where
  pub sub : h.sub < 2 ^ 14
  pub length : h.length < 2 ^ 16

-- the header of an entry
abbrev pub header_of_uart : UartEntry → UartHeader
header_of_uart e = record { parity = e.message.parity; sub = e.message.sub; length = length e.message.bytes }

-- and its bits
abbrev pub uart_header : UartEntry → ℕ
uart_header e = uart_header_bits (header_of_uart e)

-- a zero byte stands after an odd number of bytes
abbrev pub uart_entry : UartEntry → List ℕ
uart_entry e = stamp e.count ++ le_bytes 4 (uart_header e) ++ padded e.message.bytes

-- the length of an entry in the body
abbrev pub uart_entry_size : UartEntry → ℕ
uart_entry_size e = 12 + length e.message.bytes + length e.message.bytes % 2

abbrev pub uart_body : List UartEntry → List ℕ
uart_body entries = uart_word ++ flat_map uart_entry entries

-- a message at a count
abbrev pub uart_at : ℕ → UartMessage → UartEntry
uart_at count m = record { count = count; message = m }

abbrev pub uart_of : ℕ → Bool → ℕ → List ℕ → UartEntry
uart_of count parity sub bytes = uart_at count (record { parity = parity; sub = sub; bytes = bytes })

-- the ranges of the fields
pub record FitsUart (e : UartEntry) : Type 0 where
  pub count : IsCount e.count
  pub sub : e.message.sub < 2 ^ 14
  pub bytes : length e.message.bytes < 2 ^ 16

-- the messages of one packet: there is one
abbrev pub FitsUartBody : List UartEntry → Type 0
FitsUartBody entries = (0 < length entries) × AllByRecursion FitsUart entries

-- the body that the writer makes of these entries
abbrev pub IsUart : List UartEntry → List ℕ → Type 0
IsUart entries body = FitsUartBody entries × (body ≡ uart_body entries)

-- whoever wrote it: a word and exactly the entries
abbrev pub IsForeignUart : List ℕ → Type 0
IsForeignUart body =
    (word : ℕ) × (entries : List (List ℕ)) × (word < 2 ^ 32)
    × AllByRecursion (IsEntryBytes 12 told_size) entries × (body ≡ le_bytes 4 word ++ concat entries)

-- there is a word, and it says that the entries have no stamps, which isn't read
abbrev pub is_opaque_uart : List ℕ → Bool
is_opaque_uart body = nat_le 4 (length body) && not (bit_of 31 (u32_at body 0))
