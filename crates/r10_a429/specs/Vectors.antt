-- ARINC 429 bodies written out.
use Rattle.std.specs.Prelude.{◌≡◌, ℕ, true, false, List, [], ◌∷◌, ◌++◌, replicate, refl}
use Rattle.std.proofs.Common.{arith, lit<, lit≤}
use Rattle.r10_a429.specs.declared.entry.ArincEntry.{ArincEntry}
use Rattle.r10_a429.specs.Arinc.{FollowsSoon, IsForeignArinc, arinc_body}

-- a word on the high speed bus 1
abbrev pub a_word : ℕ → ArincEntry
a_word count =
    record { count = count; message = record { bus = 1; format = false; parity = false; high = true; word = 0x12345678 } }

-- at 5000, 5100 and 5300: gaps of 0, 100 and 200
pub three_words-body : arinc_body 5000 (a_word 5000 ∷ a_word 5100 ∷ a_word 5300 ∷ [])
    ≡ (3 ∷ 0 ∷ 0 ∷ 0 ∷ [])
    ++ (0x00 ∷ 0x00 ∷ 0x20 ∷ 0x01 ∷ 0x78 ∷ 0x56 ∷ 0x34 ∷ 0x12 ∷ [])
    ++ (0x64 ∷ 0x00 ∷ 0x20 ∷ 0x01 ∷ 0x78 ∷ 0x56 ∷ 0x34 ∷ 0x12 ∷ [])
    ++ (0xC8 ∷ 0x00 ∷ 0x20 ∷ 0x01 ∷ 0x78 ∷ 0x56 ∷ 0x34 ∷ 0x12 ∷ [])
three_words-body = refl

-- a format and a parity error on the last bus, a tenth of a second after a word without any
abbrev pub two_buses : List ArincEntry
two_buses = record { count = 5000; message = record { bus = 0; format = false; parity = false; high = false; word = 0 } }
    ∷ record { count = 1005000; message = record { bus = 255; format = true; parity = true; high = false; word = 0xFFFFFFFF } } ∷ []

pub two_buses-body : arinc_body 5000 two_buses
    ≡ 2 ∷ 0 ∷ 0 ∷ 0 ∷ 0 ∷ 0 ∷ 0 ∷ 0 ∷ 0 ∷ 0 ∷ 0 ∷ 0 ∷ 0x40 ∷ 0x42 ∷ 0xCF ∷ 0xFF ∷ 0xFF ∷ 0xFF ∷ 0xFF ∷ 0xFF ∷ []
two_buses-body = refl

-- a tenth of a second later, and a count more; no later, and a count before
pub soon-enough : FollowsSoon 5000 (a_word 1005000)
soon-enough = (lit≤ tt, lit≤ tt)

pub too-late : FollowsSoon 5000 (a_word 1005001) → ⊥
too-late soon = omega (arith, soon.1)

pub at-once : FollowsSoon 5000 (a_word 5000)
at-once = (lit≤ tt, lit≤ tt)

pub too-soon : FollowsSoon 5000 (a_word 4999) → ⊥
too-soon soon = omega (arith, soon.0)

-- any upper half of the word, and any bytes of as many words, may be another recorder's
pub another-recorders : IsForeignArinc ((2 ∷ 0 ∷ 0xFF ∷ 0xFF ∷ []) ++ replicate 16 0xFF)
another-recorders = (0xFFFF0002, replicate 16 0xFF, lit< tt, refl, refl)
