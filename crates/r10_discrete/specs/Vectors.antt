-- Discrete bodies written out.
use Rattle.std.specs.Prelude.{◌≡◌, List, [], ◌∷◌, ◌++◌, replicate, refl}
use Rattle.std.proofs.Common.{arith, lit<, lit≤}
use Rattle.r10_discrete.specs.declared.entry.DiscreteEntry.{DiscreteEntry}
use Rattle.r10_discrete.specs.Discrete.{FitsDiscrete, FitsDiscreteBody, IsForeignDiscrete, discrete_body}

-- the first and the last of eight discretes at 3000
pub one_change-body : discrete_body 8 (record { count = 3000; message = record { states = 0x81 } } ∷ []) ≡ 0x40 ∷ 0 ∷ 0 ∷ 0 ∷ 0xB8
    ∷ 0x0B ∷ 0 ∷ 0 ∷ 0 ∷ 0 ∷ 0 ∷ 0 ∷ 0x81 ∷ 0 ∷ 0 ∷ 0 ∷ []
one_change-body = refl

-- none and all of 31 discretes
abbrev pub two_changes : List DiscreteEntry
two_changes = record { count = 3000; message = record { states = 0 } }
    ∷ record { count = 281474976710655; message = record { states = 0x7FFFFFFF } } ∷ []

pub two_changes-body : discrete_body 31 two_changes
    ≡ 0xF8 ∷ 0 ∷ 0 ∷ 0 ∷ 0xB8 ∷ 0x0B ∷ 0 ∷ 0 ∷ 0 ∷ 0 ∷ 0 ∷ 0 ∷ 0 ∷ 0 ∷ 0 ∷ 0
    ∷ 0xFF ∷ 0xFF ∷ 0xFF ∷ 0xFF ∷ 0xFF ∷ 0xFF ∷ 0 ∷ 0 ∷ 0xFF ∷ 0xFF ∷ 0xFF ∷ 0x7F ∷ []
two_changes-body = refl

pub two_changes-fit : FitsDiscreteBody 31 two_changes
two_changes-fit = record { some = lit< tt; discretes = (lit≤ tt, lit≤ tt); fields = ((lit< tt, lit< tt), ((lit< tt, lit< tt), tt)) }

-- the state of the eighth discrete of eight, and of seven
pub eighth-of-eight : FitsDiscrete 8 (record { count = 0; message = record { states = 0x81 } })
eighth-of-eight = (lit< tt, lit< tt)

pub eighth-of-seven : FitsDiscrete 7 (record { count = 0; message = record { states = 0x81 } }) → ⊥
eighth-of-seven fits = omega (arith, fits.1)

pub no-discretes : FitsDiscreteBody 0 (record { count = 0; message = record { states = 0 } } ∷ []) → ⊥
no-discretes fits = omega (arith, fits.discretes.0)

-- any word, and any bytes of two changes, may be another recorder's
pub another-recorders : IsForeignDiscrete ((0x41 ∷ 0xFF ∷ 0 ∷ 0 ∷ []) ++ replicate 24 0xFF)
another-recorders = (0xFF41, replicate 24 0xFF, 2, lit< tt, refl, refl)
