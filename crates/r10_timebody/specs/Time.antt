-- The body of a time packet: the channel specific word, and four words of packed decimal digits.
use Rattle.std.specs.Prelude.{◌≡◌, ℕ, ◌+◌, ◌*◌, ◌/◌, ◌%◌, Bool, not, ◌&&◌, cond, List, ◌++◌, length, slice_index, nat_le}
use Rattle.r10_count.specs.Bytes.{le_bytes, u32_at, bit_of}
use Rattle.r10_count.specs.Civil.{is_leap, IsCivil}
use Rattle.r10_count.specs.declared.civil.Parts.{Parts}

-- a number below 100 as two packed decimal digits
abbrev pub two_packed_digits : ℕ → ℕ
two_packed_digits n = n / 10 * 16 + n % 10

-- a word of two such numbers
abbrev pub digits_word : ℕ → ℕ → List ℕ
digits_word high low = le_bytes 2 (256 * two_packed_digits high + two_packed_digits low)

-- month and year are present (bit 9), the leap bit (8) is the year's, the format is 0 and the source 1
abbrev pub time_word : Parts → ℕ
time_word p = cond (is_leap p.year) 0x301 0x201

-- the word; seconds and hundredths; hours and minutes; month and day; the year's four digits
abbrev pub time_body : Parts → List ℕ
time_body p =
    le_bytes 4 (time_word p) ++ digits_word p.second p.centi ++ digits_word p.hour p.minute
    ++ digits_word p.month p.day ++ digits_word (p.year / 100) (p.year % 100)

-- the writer makes this body of a civil time
abbrev pub IsTime : Parts → List ℕ → Type 0
IsTime civil body = IsCivil civil × (body ≡ time_body civil)

-- the number of two packed decimal digits, whatever they are
abbrev pub told_number : ℕ → ℕ
told_number digits = digits / 16 * 10 + digits % 16

-- the parts that the digits of a body tell, valid or not
abbrev pub told_parts : List ℕ → Parts
told_parts body =
    let number : ℕ → ℕ = λ place. told_number (slice_index body place) in
    record {
      year = number 11 * 100 + number 10;
      month = number 9;
      day = number 8;
      hour = number 7;
      minute = number 6;
      second = number 5;
      centi = number 4;
    }

-- whoever wrote it: a word, and four words of digits that are not judged
abbrev pub IsForeignTime : List ℕ → Type 0
IsForeignTime body = length body ≡ 12

-- there is a word, and it says that the time is a day of the year, which isn't read
abbrev pub is_opaque_time : List ℕ → Bool
is_opaque_time body = nat_le 4 (length body) && not (bit_of 9 (u32_at body 0))
