-- Message bodies written out.
use Rattle.std.specs.Prelude.{◌≡◌, ℕ, true, false, List, [], ◌∷◌, ◌++◌, refl}
use Rattle.std.proofs.Common.{arith, lit<, lit≤}
use Rattle.r10_message.specs.declared.entry.MessageEntry.{MessageEntry}
use Rattle.r10_message.specs.declared.header.MessageHeader.{MessageHeader}
use Rattle.r10_message.specs.Message.{FitsMessageHeader, FitsMessage, IsForeignMessage, message_header_bits, message_body}
use Rattle.r10_message.specs.Message.{message_entry, message_of, is_opaque_message}

-- ABC at 1000 and an empty message at 1010
abbrev pub two_messages : List MessageEntry
two_messages = message_of 1000 false false 0 (0x41 ∷ 0x42 ∷ 0x43 ∷ []) ∷ message_of 1010 false false 0 [] ∷ []

pub two_messages-body : message_body two_messages ≡ 2 ∷ 0 ∷ 0 ∷ 0 ∷ 0xE8 ∷ 0x03 ∷ 0 ∷ 0 ∷ 0 ∷ 0 ∷ 0 ∷ 0 ∷ 3 ∷ 0 ∷ 0 ∷ 0 ∷ 0x41
    ∷ 0x42 ∷ 0x43 ∷ 0 ∷ 0xF2 ∷ 0x03 ∷ 0 ∷ 0 ∷ 0 ∷ 0 ∷ 0 ∷ 0 ∷ 0 ∷ 0 ∷ 0 ∷ 0 ∷ []
two_messages-body = refl

-- a data error on the last subchannel at the last count
pub greatest-entry : message_entry (message_of 281474976710655 true false 16383 (0x5A ∷ 0xA5 ∷ []))
    ≡ 0xFF ∷ 0xFF ∷ 0xFF ∷ 0xFF ∷ 0xFF ∷ 0xFF ∷ 0 ∷ 0 ∷ 2 ∷ 0 ∷ 0xFF ∷ 0xBF ∷ 0x5A ∷ 0xA5 ∷ []
greatest-entry = refl

-- a format error on subchannel 1
pub format_error-entry : message_entry (message_of 1 false true 1 (0x5A ∷ []))
    ≡ 1 ∷ 0 ∷ 0 ∷ 0 ∷ 0 ∷ 0 ∷ 0 ∷ 0 ∷ 1 ∷ 0 ∷ 1 ∷ 0x40 ∷ 0x5A ∷ 0 ∷ []
format_error-entry = refl

-- both errors and no bytes
pub both_errors-entry : message_entry (message_of 0 true true 0 []) ≡ 0 ∷ 0 ∷ 0 ∷ 0 ∷ 0 ∷ 0 ∷ 0 ∷ 0 ∷ 0 ∷ 0 ∷ 0 ∷ 0xC0 ∷ []
both_errors-entry = refl

pub whole_messages : is_opaque_message (2 ∷ 0 ∷ 0xFC ∷ 0xFF ∷ []) ≡ false
whole_messages = refl

pub first_segments : is_opaque_message (2 ∷ 0 ∷ 1 ∷ 0 ∷ 1 ∷ []) ≡ true
first_segments = refl

pub last_segments : is_opaque_message (2 ∷ 0 ∷ 2 ∷ 0 ∷ []) ≡ true
last_segments = refl

pub no-word : is_opaque_message (2 ∷ 0 ∷ 1 ∷ []) ≡ false
no-word = refl

-- the last subchannel, and one after it
pub greatest-fits : FitsMessage (message_of 281474976710655 true false 16383 (0x5A ∷ 0xA5 ∷ []))
greatest-fits = record { count = lit< tt; sub = lit< tt; bytes = lit< tt }

pub subchannel-16384 : FitsMessage (message_of 0 false false 16384 []) → ⊥
subchannel-16384 fits = omega (arith, fits.sub)

-- both errors, the last subchannel and the most bytes: all bits
abbrev pub full_header : MessageHeader
full_header = record { data_error = true; format = true; sub = 16383; length = 65535 }

pub full_header-bits : message_header_bits full_header ≡ 0xFFFFFFFF
full_header-bits = refl

pub full_header-fits : FitsMessageHeader full_header
full_header-fits = record { sub = lit< tt; length = lit< tt }

-- a front with any stamp, any upper half of the header, and this length
abbrev pub message_front : ℕ → List ℕ
message_front bytes = 0xFF ∷ 0xFF ∷ 0xFF ∷ 0xFF ∷ 0xFF ∷ 0xFF ∷ 0xFF ∷ 0xFF ∷ bytes ∷ 0 ∷ 0xFF ∷ 0xFF ∷ []

-- any upper half of the word, any stamp and header, and any byte after an odd number of bytes, may be another recorder's
pub another-recorders : IsForeignMessage ((2 ∷ 0 ∷ 0xFC ∷ 0xFF ∷ []) ++ message_front 1 ++ (0x41 ∷ 0x20 ∷ []) ++ message_front 0)
another-recorders = (
  0xFFFC0002,
  (message_front 1 ++ (0x41 ∷ 0x20 ∷ [])) ∷ message_front 0 ∷ [],
  lit< tt,
  refl,
  ((lit≤ tt, refl), ((lit≤ tt, refl), tt)),
  refl,
)
