-- Times written out.
use Rattle.std.specs.Prelude.{◌≡◌, true, false, [], ◌∷◌, map, replicate, refl}
use Rattle.std.proofs.Common.{arith}
use Rattle.r10_count.specs.declared.civil.Parts.{Parts}
use Rattle.r10_timebody.specs.Time.{IsForeignTime, time_body, is_opaque_time}

abbrev leap_day : Parts
leap_day = record { year = 2024; month = 2; day = 29; hour = 12; minute = 34; second = 56; centi = 78 }

pub leap_day-body : time_body leap_day ≡ 0x01 ∷ 0x03 ∷ 0x00 ∷ 0x00 ∷ 0x78 ∷ 0x56 ∷ 0x34 ∷ 0x12 ∷ 0x29 ∷ 0x02 ∷ 0x24 ∷ 0x20 ∷ []
leap_day-body = refl

abbrev common_century : Parts
common_century = record { year = 2100; month = 2; day = 28; hour = 23; minute = 59; second = 59; centi = 99 }

pub common_century-body : time_body common_century ≡ 0x01 ∷ 0x02 ∷ 0x00 ∷ 0x00 ∷ 0x99 ∷ 0x59 ∷ 0x59 ∷ 0x23 ∷ 0x28 ∷ 0x02 ∷ 0x00
    ∷ 0x21 ∷ []
common_century-body = refl

-- bit 9 is clear in the first alone; the last has no whole word
pub opaque_words : map is_opaque_time ((0x01 ∷ 0x01 ∷ 0x00 ∷ 0x00 ∷ []) ∷ (0x01 ∷ 0x03 ∷ 0x00 ∷ 0x00 ∷ [])
    ∷ (0x00 ∷ 0x02 ∷ 0x00 ∷ 0x00 ∷ 0x09 ∷ []) ∷ (0x01 ∷ 0x01 ∷ 0x00 ∷ []) ∷ []) ≡ true ∷ false ∷ false ∷ false ∷ []
opaque_words = refl

-- twelve bytes may be another recorder's, and eleven may not
pub twelve-bytes : IsForeignTime (replicate 12 0xFF)
twelve-bytes = refl

pub eleven-bytes : IsForeignTime (replicate 11 0xFF) → ⊥
eleven-bytes is = omega (arith, is)
