-- Bus messages written out.
use Rattle.std.specs.Prelude.{◌≡◌, ℕ, List, Some, None, [], ◌∷◌, ◌++◌, bit_and, refl, replicate}
use Rattle.std.proofs.Common.{arith, lit<, lit≤}
use Rattle.r10_b1553.specs.Bus.{FitsBus, IsForeignBus, bus_body, bus_of, named_bits, bus_told_size}

-- on bus B, a command and a data word at 2000
pub one_message-body : bus_body (bus_of 2000 0x2000 0 (0x0821 ∷ 0xABCD ∷ []) ∷ [])
    ≡ 1 ∷ 0 ∷ 0 ∷ 0 ∷ 0xD0 ∷ 0x07 ∷ 0 ∷ 0 ∷ 0 ∷ 0 ∷ 0 ∷ 0 ∷ 0 ∷ 0x20 ∷ 0 ∷ 0 ∷ 4 ∷ 0 ∷ 0x21 ∷ 0x08 ∷ 0xCD ∷ 0xAB ∷ []
one_message-body = refl

-- all bits of the block status and a gap, without words
pub no_words-body : bus_body (bus_of 0 0x3E38 0x0102 [] ∷ [])
    ≡ 1 ∷ 0 ∷ 0 ∷ 0 ∷ 0 ∷ 0 ∷ 0 ∷ 0 ∷ 0 ∷ 0 ∷ 0 ∷ 0 ∷ 0x38 ∷ 0x3E ∷ 0x02 ∷ 0x01 ∷ 0 ∷ 0 ∷ []
no_words-body = refl

-- bits 13, 12, 11, 10, 9, 5, 4 and 3
pub bits_kept : bit_and 0x2000 named_bits ∷ bit_and 0x1000 named_bits ∷ bit_and 0x800 named_bits ∷ bit_and 0x400 named_bits
    ∷ bit_and 0x200 named_bits ∷ bit_and 0x20 named_bits ∷ bit_and 0x10 named_bits ∷ bit_and 8 named_bits ∷ []
    ≡ 0x2000 ∷ 0x1000 ∷ 0x800 ∷ 0x400 ∷ 0x200 ∷ 0x20 ∷ 0x10 ∷ 8 ∷ []
bits_kept = refl

-- and no others
pub bits_dropped : bit_and 0xC1C7 named_bits ≡ 0
bits_dropped = refl

abbrev pub entry_front : ℕ → List ℕ
entry_front bytes = 0 ∷ 0 ∷ 0 ∷ 0 ∷ 0 ∷ 0 ∷ 0 ∷ 0 ∷ 0 ∷ 0 ∷ 0 ∷ 0 ∷ bytes ∷ 0 ∷ []

pub four-bytes : bus_told_size (entry_front 4) ≡ Some 18
four-bytes = refl

pub five-bytes : bus_told_size (entry_front 5) ≡ None
five-bytes = refl

pub too-many-words : FitsBus (bus_of 0 0 0 (replicate 37 7)) → ⊥
too-many-words fits = omega (arith, fits.few)

-- any upper bits of the word, any stamp and any block status may be another recorder's
pub another-recorders : IsForeignBus ((1 ∷ 0 ∷ 0 ∷ 0x40 ∷ []) ++ replicate 12 0xFF ++ (2 ∷ 0 ∷ 0x21 ∷ 0x08 ∷ []))
another-recorders = (0x40000001, (replicate 12 0xFF ++ (2 ∷ 0 ∷ 0x21 ∷ 0x08 ∷ [])) ∷ [], lit< tt, refl, ((lit≤ tt, refl), tt), refl)
