-- UART bodies written out.
use Rattle.std.specs.Prelude.{◌≡◌, ℕ, Some, true, false, List, [], ◌∷◌, ◌++◌, refl}
use Rattle.std.proofs.Common.{arith, lit<, lit≤}
use Rattle.r10_uart.specs.declared.entry.UartEntry.{UartEntry}
use Rattle.r10_uart.specs.declared.header.UartHeader.{UartHeader}
use Rattle.r10_count.specs.Texts.{told_size}
use Rattle.r10_uart.specs.Uart.{FitsUartHeader, FitsUart, IsForeignUart, uart_header_bits, uart_body, uart_entry, uart_of}
use Rattle.r10_uart.specs.Uart.{is_opaque_uart}

-- ABC at 1000 and an empty message at 1010
abbrev pub two_messages : List UartEntry
two_messages = uart_of 1000 false 0 (0x41 ∷ 0x42 ∷ 0x43 ∷ []) ∷ uart_of 1010 false 0 [] ∷ []

pub two_messages-body : uart_body two_messages ≡ 0 ∷ 0 ∷ 0 ∷ 0x80 ∷ 0xE8 ∷ 0x03 ∷ 0 ∷ 0 ∷ 0 ∷ 0 ∷ 0 ∷ 0 ∷ 3 ∷ 0 ∷ 0 ∷ 0 ∷ 0x41
    ∷ 0x42 ∷ 0x43 ∷ 0 ∷ 0xF2 ∷ 0x03 ∷ 0 ∷ 0 ∷ 0 ∷ 0 ∷ 0 ∷ 0 ∷ 0 ∷ 0 ∷ 0 ∷ 0 ∷ []
two_messages-body = refl

-- a parity error on the last subchannel at the last count
pub greatest-entry : uart_entry (uart_of 281474976710655 true 16383 (0x5A ∷ 0xA5 ∷ []))
    ≡ 0xFF ∷ 0xFF ∷ 0xFF ∷ 0xFF ∷ 0xFF ∷ 0xFF ∷ 0 ∷ 0 ∷ 2 ∷ 0 ∷ 0xFF ∷ 0xBF ∷ 0x5A ∷ 0xA5 ∷ []
greatest-entry = refl

pub with-stamps : is_opaque_uart (0 ∷ 0 ∷ 0 ∷ 0x80 ∷ []) ≡ false
with-stamps = refl

pub without-stamps : is_opaque_uart (0 ∷ 0 ∷ 0 ∷ 0x7F ∷ 1 ∷ []) ≡ true
without-stamps = refl

pub no-word : is_opaque_uart (0 ∷ 0 ∷ 0 ∷ []) ≡ false
no-word = refl

-- the last subchannel, and one after it
pub greatest-fits : FitsUart (uart_of 281474976710655 true 16383 (0x5A ∷ 0xA5 ∷ []))
greatest-fits = record { count = lit< tt; sub = lit< tt; bytes = lit< tt }

pub subchannel-16384 : FitsUart (uart_of 0 false 16384 []) → ⊥
subchannel-16384 fits = omega (arith, fits.sub)

-- a parity error, the last subchannel and the most bytes: all bits but the one that must be 0
abbrev pub full_header : UartHeader
full_header = record { parity = true; sub = 16383; length = 65535 }

pub full_header-bits : uart_header_bits full_header ≡ 0xBFFFFFFF
full_header-bits = refl

pub full_header-fits : FitsUartHeader full_header
full_header-fits = record { sub = lit< tt; length = lit< tt }

-- a front with any stamp, any upper half of the header, and this length
abbrev pub uart_front : ℕ → List ℕ
uart_front bytes = 0xFF ∷ 0xFF ∷ 0xFF ∷ 0xFF ∷ 0xFF ∷ 0xFF ∷ 0xFF ∷ 0xFF ∷ bytes ∷ 0 ∷ 0xFF ∷ 0xFF ∷ []

pub four-bytes : told_size (uart_front 4) ≡ Some 16
four-bytes = refl

pub five-bytes : told_size (uart_front 5) ≡ Some 18
five-bytes = refl

-- any word, stamp and header, and any byte after an odd number of bytes, may be another recorder's
pub another-recorders : IsForeignUart ((1 ∷ 0 ∷ 0 ∷ 0 ∷ []) ++ uart_front 1 ++ (0x41 ∷ 0x20 ∷ []) ++ uart_front 0)
another-recorders = (
  1,
  (uart_front 1 ++ (0x41 ∷ 0x20 ∷ [])) ∷ uart_front 0
      ∷ [],
  lit< tt,
  ((lit≤ tt, refl), ((lit≤ tt, refl), tt)),
  refl,
)
