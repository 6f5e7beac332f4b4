-- Dates of the years 1 to 3999 are those of the calendar, and have its day numbers.
use Rattle.std.proofs.Common.{◌≡◌, ℕ, zero, suc, ◌+◌, ◌-◌, ◌*◌, ◌/◌, ◌^◌, ◌<◌, ◌≤◌, take, refl, ap, ◌∙◌, arith, rules, IsTrue, Bool, true, false, ◌&&◌, nat_le, nat_lt, ℤ, pos, ◌+ℤ◌, ◌-ℤ◌, ◌*ℤ◌, int_div, to_z, of_z, w64, Fits}
use Rattle.std.specs.Prelude.{sum, slice_index}
use Rattle.std.proofs.lemmas.Bool.Decides.{nat_tests}
use Rattle.std.proofs.lemmas.Int.{to_z-of_z}
use Rattle.jiff_core.specs.Calendar.{IsDate, days_from_civil, is_leap_year, days_in_month, days_of_months, day_count}
use Rattle.jiff_core.proofs.CalendarLemmas.{day_count_bounds, days_from_civil-day_count, day_count-day_of_year}
use Rattle.jiff_core.proofs.MarchLemmas.{day_count-early}
use Rattle.jiff_core.proofs.SignedLemmas.{signed_arith}
use Rattle.jiff_core.specs.Date.{epoch_day, IsYmd}
use Rattle.jiff_core.specs.declared.civil.date.Date.{Date}
use Rattle.r10_count.specs.declared.civil.Parts.{Parts}
use Rattle.r10_count.specs.Civil.{is_leap, month_lengths, is_date, is_time_of_day, IsCivil, day_number}

pub is_leap_year-is_leap : (y : ℕ) → is_leap_year (pos y) ≡ is_leap y
is_leap_year-is_leap y = grind (arith, nat_tests)

-- the months have the calendar's lengths
pub month_length : (y m : ℕ) → 1 ≤ m → m ≤ 12 → days_in_month (pos y) m ≡ slice_index (month_lengths y) (m - 1)
month_length y zero low high = absurd (omega arith)
month_length y (suc zero) low high = refl
month_length y (suc (suc zero)) low high = rw (is_leap_year-is_leap y)
month_length y (suc (suc (suc zero))) low high = refl
month_length y (suc (suc (suc (suc zero)))) low high = refl
month_length y (suc (suc (suc (suc (suc zero))))) low high = refl
month_length y (suc (suc (suc (suc (suc (suc zero)))))) low high = refl
month_length y (suc (suc (suc (suc (suc (suc (suc zero))))))) low high = refl
month_length y (suc (suc (suc (suc (suc (suc (suc (suc zero)))))))) low high = refl
month_length y (suc (suc (suc (suc (suc (suc (suc (suc (suc zero))))))))) low high = refl
month_length y (suc (suc (suc (suc (suc (suc (suc (suc (suc (suc zero)))))))))) low high = refl
month_length y (suc (suc (suc (suc (suc (suc (suc (suc (suc (suc (suc zero))))))))))) low high = refl
month_length y (suc (suc (suc (suc (suc (suc (suc (suc (suc (suc (suc (suc zero)))))))))))) low high = refl
month_length y (suc (suc (suc (suc (suc (suc (suc (suc (suc (suc (suc (suc (suc m))))))))))))) low high = absurd (omega arith)

-- the days before a month
months_before : (y m : ℕ) → m < 12 → days_of_months (pos y) m ≡ sum (take m (month_lengths y))
unfolding days_of_months
months_before y zero low = refl
months_before y (suc zero) low = refl
months_before y (suc (suc zero)) low = rw (is_leap_year-is_leap y) (omega arith)
months_before y (suc (suc (suc zero))) low = rw (is_leap_year-is_leap y) (omega arith)
months_before y (suc (suc (suc (suc zero)))) low = rw (is_leap_year-is_leap y) (omega arith)
months_before y (suc (suc (suc (suc (suc zero))))) low = rw (is_leap_year-is_leap y) (omega arith)
months_before y (suc (suc (suc (suc (suc (suc zero)))))) low = rw (is_leap_year-is_leap y) (omega arith)
months_before y (suc (suc (suc (suc (suc (suc (suc zero))))))) low = rw (is_leap_year-is_leap y) (omega arith)
months_before y (suc (suc (suc (suc (suc (suc (suc (suc zero)))))))) low = rw (is_leap_year-is_leap y) (omega arith)
months_before y (suc (suc (suc (suc (suc (suc (suc (suc (suc zero))))))))) low = rw (is_leap_year-is_leap y) (omega arith)
months_before y (suc (suc (suc (suc (suc (suc (suc (suc (suc (suc zero)))))))))) low = rw (is_leap_year-is_leap y) (omega arith)
months_before y (suc (suc (suc (suc (suc (suc (suc (suc (suc (suc (suc zero))))))))))) low = rw (is_leap_year-is_leap y) (omega arith)
months_before y (suc (suc (suc (suc (suc (suc (suc (suc (suc (suc (suc (suc m)))))))))))) low = absurd (omega arith)

-- 1 January of a year, from that of year 1
new_year : (y : ℕ) → 1 ≤ y → day_count (pos y) 1 1 + (y - 1) / 100 ≡ day_count (pos 1) 1 1 + 365 * (y - 1) + (y - 1) / 4 + (y - 1) / 400
new_year y low =
    let there = day_count-early (pos y) (y + 9999) 1 1 (ap pos (omega arith)) (omega arith) (omega arith) (omega arith) in
    let here = day_count-early (pos 1) 10000 1 1 refl (omega arith) (omega arith) (omega arith) in
    omega arith

-- a day has its day number in the calendar's count
pub day_count-day_number : (p : Parts) → 1 ≤ p.year → 1 ≤ p.month → p.month ≤ 12 → 1 ≤ p.day → day_count (pos p.year) p.month p.day + 1 ≡ day_count (pos 1) 1 1 + day_number p
day_count-day_number p year low high day =
    omega (arith, new_year p.year year, months_before p.year (p.month - 1) (omega arith), day_count-day_of_year (pos p.year) p.month p.day day)

-- the tests of a date, where its month has so many days
abbrev date_tests : ℕ → ℕ → ℕ → ℕ → Bool
date_tests year month day length =
    nat_le 1 year && nat_lt year 4000 && nat_le 1 month && nat_le month 12 && nat_le 1 day && nat_le day length

date_tests_pass : (y m d length : ℕ) → 1 ≤ y → y < 4000 → 1 ≤ m → m ≤ 12 → 1 ≤ d → d ≤ length → IsTrue (date_tests y m d length)
date_tests_pass y m d length a b c e f g = grind (arith, nat_tests)

date_tests_say : (y m d length : ℕ) → IsTrue (date_tests y m d length) → (1 ≤ y) × (y < 4000) × (1 ≤ m) × (m ≤ 12) × (1 ≤ d) × (d ≤ length)
date_tests_say y m d length h = (search rules, search rules, search rules, search rules, search rules, search rules)

-- of the years 1 to 3999 the dates are the calendar's
pub is_date-IsDate : (p : Parts) → 1 ≤ p.year → p.year < 4000 → IsDate (pos p.year) (pos p.month) (pos p.day) → IsTrue (is_date p)
is_date-IsDate p low high date =
    let first : 1 ≤ p.month = omega (arith, signed_arith) in
    let last : p.month ≤ 12 = omega (arith, signed_arith) in
    let length = month_length p.year p.month first last in
    date_tests_pass p.year p.month p.day _ low high first last (omega (arith, signed_arith)) (omega (arith, signed_arith, length))

pub IsDate-is_date : (p : Parts) → IsTrue (is_date p) → IsDate (pos p.year) (pos p.month) (pos p.day)
IsDate-is_date p date =
    let facts = date_tests_say p.year p.month p.day _ date in
    let length = month_length p.year p.month facts.2 facts.3 in
    rw length (omega (arith, signed_arith), omega (arith, signed_arith), omega (arith, signed_arith))

-- whole days as a duration tells them
pub days_of_hours : (hours from to : ℤ) (n : ℕ) → n < 2 ^ 32 → to ≡ from +ℤ pos n → hours ≡ int_div ((to -ℤ from) *ℤ pos 86_400_000_000_000) (pos 3_600_000_000_000) → to_z w64 (of_z w64 (to_z w64 (of_z w64 (int_div (to_z w64 (of_z w64 hours)) (pos 24))) +ℤ pos 1)) ≡ pos (n + 1)
days_of_hours hours from to n small e h =
    let kept : ℤ → ℤ = λ z. to_z w64 (of_z w64 z) in
    let whole : hours ≡ pos (n * 24) = omega (arith, signed_arith) in
    let back : n * 24 / 24 ≡ n = omega arith in
    let days : int_div (kept hours) (pos 24) ≡ pos n =
    ap (λ z. int_div (kept z) (pos 24)) whole ∙ ap (λ z. int_div z (pos 24)) (to_z-of_z w64 (pos (n * 24)) (omega (arith, signed_arith))) ∙ ap pos back in
    ap (λ z. kept (kept z +ℤ pos 1)) days ∙ ap (λ z. kept (z +ℤ pos 1)) (to_z-of_z w64 (pos n) (omega (arith, signed_arith))) ∙ to_z-of_z w64 (pos (n + 1)) (omega (arith, signed_arith))

-- two days so many apart in the count are as many apart in their day numbers
days_apart : (y : ℤ) (m d n : ℕ) → 1 ≤ n → day_count y m d + 1 ≡ day_count (pos 1) 1 1 + n → days_from_civil y m d ≡ days_from_civil (pos 1) 1 1 +ℤ pos (n - 1)
days_apart y m d n low e = omega (arith, signed_arith, days_from_civil-day_count)

pub day_number_low : (p : Parts) → IsTrue (is_date p) → 1 ≤ day_number p
day_number_low p date = let facts = date_tests_say p.year p.month p.day _ date in omega arith

pub day_number_bound : (p : Parts) → IsTrue (is_date p) → day_number p < 2 ^ 32
day_number_bound p date =
    let facts = date_tests_say p.year p.month p.day _ date in
    let calendar = IsDate-is_date p date in
    let bounds = day_count_bounds (pos p.year) p.month p.day (calendar.0, (facts.2, facts.3), (facts.4, omega (arith, signed_arith, calendar.2.1))) in
    let same = day_count-day_number p facts.0 facts.2 facts.3 facts.4 in
    let small : (n m k : ℕ) → k ≤ 7_304_849 → k + 1 ≡ m + n → n < 2 ^ 32 = λ n m k a b. omega arith in
    small (day_number p) _ _ bounds.1 same

-- a date has its day number, from 1 January of year 1
pub epoch_day-day_number : (p : Parts) (first day : Date) → IsTrue (is_date p) → IsYmd (pos 1) (pos 1) (pos 1) first → IsYmd (pos p.year) (pos p.month) (pos p.day) day → epoch_day day ≡ epoch_day first +ℤ pos (day_number p - 1)
epoch_day-day_number p first day date one same =
    let facts = date_tests_say p.year p.month p.day _ date in
    let first_month : first.month ≡ 1 = omega (arith, signed_arith) in
    let first_day : first.day ≡ 1 = omega (arith, signed_arith) in
    let month : day.month ≡ p.month = omega (arith, signed_arith) in
    let day_same : day.day ≡ p.day = omega (arith, signed_arith) in
    rw (one.0, first_month, first_day, same.0, month, day_same)
    (days_apart (pos p.year) p.month p.day (day_number p) (day_number_low p date) (day_count-day_number p facts.0 facts.2 facts.3 facts.4))

-- the day number that is computed from a duration
abbrev pub number_of_hours : ℤ → ℤ
number_of_hours hours = to_z w64 (of_z w64 (to_z w64 (of_z w64 (int_div (to_z w64 (of_z w64 hours)) (pos 24))) +ℤ pos 1))

pub number_of_hours-day_number : (p : Parts) (hours nanos : ℤ) (first day : Date) → IsTrue (is_date p) → IsYmd (pos 1) (pos 1) (pos 1) first → IsYmd (pos p.year) (pos p.month) (pos p.day) day → nanos ≡ (epoch_day day -ℤ epoch_day first) *ℤ pos 86_400_000_000_000 → hours ≡ int_div nanos (pos 3_600_000_000_000) → number_of_hours hours ≡ pos (day_number p)
number_of_hours-day_number p hours nanos first day date one same e h =
    let low = day_number_low p date in
    let high = day_number_bound p date in
    let before : (n : ℕ) → n < 2 ^ 32 → n - 1 < 2 ^ 32 = λ n k. omega arith in
    let again : (n : ℕ) → 1 ≤ n → n - 1 + 1 ≡ n = λ n k. omega arith in
    days_of_hours hours (epoch_day first) (epoch_day day) (day_number p - 1) (before _ high) (epoch_day-day_number p first day date one same) (h ∙ ap (λ z. int_div z (pos 3_600_000_000_000)) e)
    ∙ ap pos (again _ low)

pub day_number-fits : (p : Parts) → IsTrue (is_date p) → Fits w64 (day_number p)
day_number-fits p date =
    let wide : (n : ℕ) → n < 2 ^ 32 → Fits w64 n = λ n k. omega arith in
    wide _ (day_number_bound p date)

first_test : (a b : Bool) → IsTrue (a && b) → IsTrue a
first_test true b h = refl
first_test false b h = h

-- a civil time has a date
pub IsCivil-is_date : (p : Parts) → IsCivil p → IsTrue (is_date p)
IsCivil-is_date p h = first_test (is_date p) (is_time_of_day p) h
