-- Worked values.
use Rattle.std.specs.Prelude.{◌≡◌, ℕ, ◌*◌, true, false, List, [], ◌∷◌, map, replicate, Some, None, refl}
use Rattle.r10_count.specs.declared.civil.Parts.{Parts}
use Rattle.r10_count.specs.Bytes.{le_bytes, u16_at, u32_at, u64_at, flag_at, bit_of}
use Rattle.r10_count.specs.Checks.{first_broken}
use Rattle.r10_count.specs.Civil.{is_leap, is_civil, day_number, centi_of_day, centis_between}
use Rattle.r10_count.specs.Count.{stamp}
use Rattle.r10_count.specs.Names.{is_name_byte, is_name, is_volume}

pub stamp-1000 : stamp 1000 ≡ 0xE8 ∷ 0x03 ∷ 0 ∷ 0 ∷ 0 ∷ 0 ∷ 0 ∷ 0 ∷ []
stamp-1000 = refl

pub stamp-last : stamp 281474976710655 ≡ 255 ∷ 255 ∷ 255 ∷ 255 ∷ 255 ∷ 255 ∷ 0 ∷ 0 ∷ []
stamp-last = refl

abbrev bytes : List ℕ
bytes = 0x25 ∷ 0xEB ∷ 0x05 ∷ 0x00 ∷ 0x38 ∷ 0x00 ∷ 0x00 ∷ 0x80 ∷ 0x09 ∷ []

pub some_numbers : le_bytes 2 0xEB25 ∷ le_bytes 4 0x0005_EB25 ∷ [] ≡ (0x25 ∷ 0xEB ∷ []) ∷ (0x25 ∷ 0xEB ∷ 0x05 ∷ 0x00 ∷ []) ∷ []
some_numbers = refl

pub numbers_at : u16_at bytes 1 ∷ u32_at bytes 4 ∷ u64_at bytes 0 ∷ [] ≡ 0x05EB ∷ 0x8000_0038 ∷ 0x8000_0038_0005_EB25 ∷ []
numbers_at = refl

pub flags : flag_at 9 true ∷ flag_at 9 false ∷ [] ≡ 0x200 ∷ 0 ∷ []
flags = refl

pub bits : bit_of 9 0x201 ∷ bit_of 8 0x201 ∷ bit_of 0 0x201 ∷ bit_of 31 0x8000_0000 ∷ [] ≡ true ∷ false ∷ true ∷ true ∷ []
bits = refl

pub broken : first_broken {F = ℕ} ((true, 1) ∷ (false, 2) ∷ (false, 3) ∷ []) ≡ Some 2
broken = refl

pub unbroken : first_broken {F = ℕ} ((true, 1) ∷ (true, 2) ∷ []) ≡ None
unbroken = refl

pub leap_years : map is_leap (4 ∷ 1900 ∷ 2000 ∷ 2023 ∷ 2024 ∷ 2100 ∷ []) ≡ true ∷ false ∷ true ∷ false ∷ true ∷ false ∷ []
leap_years = refl

abbrev noon : ℕ → ℕ → ℕ → Parts
noon y m d = record { year = y; month = m; day = d; hour = 12; minute = 0; second = 0; centi = 0 }

pub days_that_are : map is_civil (noon 1 1 1 ∷ noon 2000 2 29 ∷ noon 2024 2 29 ∷ noon 2100 2 28 ∷ noon 3999 12 31 ∷ []) ≡ true
    ∷ true ∷ true ∷ true ∷ true ∷ []
days_that_are = refl

pub days_that_are_not : map is_civil (noon 0 12 31 ∷ noon 1900 2 29 ∷ noon 2023 2 29 ∷ noon 2100 2 29 ∷ noon 2023 4 31
    ∷ noon 2024 0 1 ∷ noon 2024 13 1 ∷ noon 2024 1 0 ∷ noon 4000 1 1 ∷ []) ≡ false ∷ false ∷ false ∷ false ∷ false ∷ false ∷ false
    ∷ false ∷ false ∷ []
days_that_are_not = refl

-- the last hundredth of a day, then an hour, a minute, a second and a hundredth too many
abbrev at : ℕ → ℕ → ℕ → ℕ → Parts
at h m s c = record (noon 2016 12 31) { hour = h; minute = m; second = s; centi = c }

pub times_of_day : map is_civil (at 23 59 59 99 ∷ at 24 0 0 0 ∷ at 23 60 0 0 ∷ at 23 59 60 0 ∷ at 23 59 59 100 ∷ []) ≡ true ∷ false
    ∷ false ∷ false ∷ false ∷ []
times_of_day = refl

-- 1 January 1970 is day 719,163, and 1 January 2000 day 730,120
pub days : map day_number (noon 1 1 1 ∷ noon 1 12 31 ∷ noon 2 1 1 ∷ noon 1970 1 1 ∷ noon 2000 1 1 ∷ []) ≡ 1 ∷ 365 ∷ 366 ∷ 719_163
    ∷ 730_120 ∷ []
days = refl

pub last_of_day : centi_of_day (at 23 59 59 99) ≡ 8_639_999
last_of_day = refl

abbrev leap_day : Parts
leap_day = record { year = 2024; month = 2; day = 29; hour = 12; minute = 34; second = 56; centi = 78 }

-- 22 hundredths to 12:34:57.00 of the same day
pub later_the_same_day : centis_between leap_day (record leap_day { second = 57; centi = 0 }) ≡ 22
later_the_same_day = refl

-- over a leap day, over no leap day, and into the next day
pub over_a_leap_day : centis_between (noon 2024 2 28) (noon 2024 3 1) ≡ 2 * 8_640_000
over_a_leap_day = refl

pub over_the_end_of_february : centis_between (noon 2023 2 28) (noon 2023 3 1) ≡ 8_640_000
over_the_end_of_february = refl

pub over_midnight : centis_between (at 23 59 59 99) (record (noon 2017 1 1) { hour = 0 }) ≡ 1
over_midnight = refl

-- beside the ends of digits and letters
pub name_bytes : map is_name_byte (0x2F ∷ 0x30 ∷ 0x39 ∷ 0x3A ∷ 0x40 ∷ 0x41 ∷ 0x5A ∷ 0x5B ∷ 0x60 ∷ 0x61 ∷ 0x7A ∷ 0x7B ∷ []) ≡ false
    ∷ true ∷ true ∷ false ∷ false ∷ true ∷ true ∷ false ∷ false ∷ true ∷ true ∷ false ∷ []
name_bytes = refl

pub name_marks : map is_name_byte (0x20 ∷ 0x2D ∷ 0x2E ∷ 0x5F ∷ 0 ∷ 0xFF ∷ []) ≡ false ∷ true ∷ true ∷ true ∷ false ∷ false ∷ []
name_marks = refl

-- FLT1, the empty name, and FLT 1
pub some_names : map is_name ((0x46 ∷ 0x4C ∷ 0x54 ∷ 0x31 ∷ []) ∷ [] ∷ (0x46 ∷ 0x4C ∷ 0x54 ∷ 0x20 ∷ 0x31 ∷ []) ∷ []) ≡ true ∷ false
    ∷ false ∷ []
some_names = refl

pub lengths_of_names : map is_name (replicate 56 0x41 ∷ replicate 57 0x41 ∷ []) ≡ true ∷ false ∷ []
lengths_of_names = refl

pub lengths_of_volumes : map is_volume ([] ∷ replicate 1 0x41 ∷ replicate 32 0x41 ∷ replicate 33 0x41 ∷ []) ≡ false ∷ true ∷ true
    ∷ false ∷ []
lengths_of_volumes = refl
