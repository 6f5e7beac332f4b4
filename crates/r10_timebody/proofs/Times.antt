-- A civil time is read from its body alone.
use Rattle.std.proofs.Common.{◌≡◌, ℕ, ◌+◌, ◌*◌, ◌/◌, ◌%◌, ◌<◌, ◌≤◌, List, [], ◌∷◌, ◌++◌, ap, ◌∙◌, arith, rules}
use Rattle.std.proofs.lemmas.Grind.{common_steps}
use Rattle.r10_count.specs.Bytes.{le_bytes}
use Rattle.r10_count.specs.Civil.{IsCivil}
use Rattle.r10_count.specs.declared.civil.Parts.{Parts}
use Rattle.r10_timebody.specs.Time.{two_packed_digits, digits_word, time_word, time_body, told_number, told_parts, IsTime}
use Rattle.r10_count.proofs.Moments.{same_parts}

pub told_number-two_digits : (n : ℕ) → n < 100 → told_number (two_packed_digits n) ≡ n
told_number-two_digits n small = omega arith

-- the low number stands first
digits_word_bytes : (high low : ℕ) → high < 100 → low < 100 → digits_word high low ≡ two_packed_digits low ∷ two_packed_digits high ∷ []
digits_word_bytes high low h l =
    let first : (256 * two_packed_digits high + two_packed_digits low) % 256 ≡ two_packed_digits low = omega arith in
    let second : (256 * two_packed_digits high + two_packed_digits low) / 256 % 256 ≡ two_packed_digits high = omega arith in
    ap (λ n. n ∷ (256 * two_packed_digits high + two_packed_digits low) / 256 % 256 ∷ []) first ∙ ap (λ n. two_packed_digits low ∷ n ∷ []) second

-- each part of a civil time has two digits, and the year twice two
pub record HasDigits (p : Parts) : Type 0 where
  pub year : p.year < 10000
  pub month : p.month < 100
  pub day : p.day < 100
  pub hour : p.hour < 100
  pub minute : p.minute < 100
  pub second : p.second < 100
  pub centi : p.centi < 100

-- the bytes after the word
abbrev pub digit_bytes : Parts → List ℕ
digit_bytes p =
    two_packed_digits p.centi ∷ two_packed_digits p.second ∷ two_packed_digits p.minute ∷ two_packed_digits p.hour ∷ two_packed_digits p.day
    ∷ two_packed_digits p.month ∷ two_packed_digits (p.year % 100) ∷ two_packed_digits (p.year / 100) ∷ []

pub time_body-digit_bytes : (p : Parts) → HasDigits p → time_body p ≡ le_bytes 4 (time_word p) ++ digit_bytes p
time_body-digit_bytes p h =
    let century : p.year / 100 < 100 = omega (arith, h.year) in
    let year : p.year % 100 < 100 = omega arith in
    ap (λ t. le_bytes 4 (time_word p) ++ t ++ digits_word p.hour p.minute ++ digits_word p.month p.day ++ digits_word (p.year / 100) (p.year % 100)) (digits_word_bytes p.second p.centi h.second h.centi)
    ∙ ap (λ t. le_bytes 4 (time_word p) ++ two_packed_digits p.centi ∷ two_packed_digits p.second ∷ t ++ digits_word p.month p.day ++ digits_word (p.year / 100) (p.year % 100)) (digits_word_bytes p.hour p.minute h.hour h.minute)
    ∙ ap (λ t. le_bytes 4 (time_word p) ++ two_packed_digits p.centi ∷ two_packed_digits p.second ∷ two_packed_digits p.minute ∷ two_packed_digits p.hour ∷ t ++ digits_word (p.year / 100) (p.year % 100)) (digits_word_bytes p.month p.day h.month h.day)
    ∙ ap (λ t. le_bytes 4 (time_word p) ++ two_packed_digits p.centi ∷ two_packed_digits p.second ∷ two_packed_digits p.minute ∷ two_packed_digits p.hour ∷ two_packed_digits p.day ∷ two_packed_digits p.month ∷ t) (digits_word_bytes (p.year / 100) (p.year % 100) century year)

told_year : (year : ℕ) → year < 10000 → told_number (two_packed_digits (year / 100)) * 100 + told_number (two_packed_digits (year % 100)) ≡ year
told_year year h = omega (arith, told_number-two_digits (year / 100) (omega arith), told_number-two_digits (year % 100) (omega arith))

-- the digits tell the parts that they were written for
pub told_parts-time_body : (p : Parts) → HasDigits p → told_parts (time_body p) ≡ p
told_parts-time_body p h =
    ap told_parts (time_body-digit_bytes p h)
    ∙ same_parts _ p (told_year p.year h.year) (told_number-two_digits p.month h.month) (told_number-two_digits p.day h.day) (told_number-two_digits p.hour h.hour)
    (told_number-two_digits p.minute h.minute) (told_number-two_digits p.second h.second) (told_number-two_digits p.centi h.centi)

pub IsCivil-HasDigits : (p : Parts) → IsCivil p → HasDigits p
IsCivil-HasDigits p h =
    let year : p.year < 4000 = search rules in
    let month : p.month ≤ 12 = search rules in
    let day : p.day ≤ 31 = grind (arith, common_steps) in
    record { year = omega arith; month = omega arith; day = omega arith; hour = search rules; minute = search rules; second = search rules; centi = search rules }

-- a body tells the civil time that it was written for
pub told_parts-IsTime : (p : Parts) (body : List ℕ) → IsTime p body → told_parts body ≡ p
told_parts-IsTime p body h = ap told_parts h.1 ∙ told_parts-time_body p (IsCivil-HasDigits p h.0)
