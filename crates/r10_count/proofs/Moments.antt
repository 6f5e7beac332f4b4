-- Civil times with the same hundredths are one civil time.
use Rattle.std.proofs.Common.{◌≡◌, ℕ, ◌+◌, ◌-◌, ◌*◌, ◌<◌, refl, sym, ap, ◌∙◌, arith, rules, IsTrue, Bool, true, false, ◌&&◌, nat_lt, pos, ◌+ℤ◌}
use Rattle.jiff_core.specs.Date.{epoch_day}
use Rattle.jiff_core.specs.declared.civil.date.Date.{Date}
use Rattle.jiff_core.proofs.DateLemmas.{epoch_day_injective}
use Rattle.jiff_core.proofs.SignedLemmas.{signed_arith}
use Rattle.r10_count.specs.declared.civil.Parts.{Parts}
use Rattle.r10_count.specs.Civil.{is_date, is_time_of_day, IsCivil, day_number, centi_of_day, centis}
use Rattle.r10_count.proofs.Calendar.{IsDate-is_date, IsCivil-is_date, epoch_day-day_number}

-- the calendar's date of the parts
calendar_date : (p : Parts) → IsTrue (is_date p) → Date
calendar_date p date =
    let calendar = IsDate-is_date p date in
    record { year = pos p.year; month = p.month; day = p.day; year_in = calendar.0; month_in = omega (arith, signed_arith, calendar); day_in = omega (arith, signed_arith, calendar) }

first_date : Date
first_date = record { year = pos 1; month = 1; day = 1; year_in = search rules; month_in = search rules; day_in = search rules }

-- dates with one day number are one date
date_of_day_number : (p q : Parts) → IsTrue (is_date p) → IsTrue (is_date q) → day_number p ≡ day_number q → (p.year ≡ q.year) × (p.month ≡ q.month) × (p.day ≡ q.day)
unfolding calendar_date first_date
date_of_day_number p q hp hq e =
    let one = epoch_day-day_number p first_date (calendar_date p hp) hp (refl, refl, refl) (refl, refl, refl) in
    let other = epoch_day-day_number q first_date (calendar_date q hq) hq (refl, refl, refl) (refl, refl, refl) in
    let same = epoch_day_injective (calendar_date p hp) (calendar_date q hq) (one ∙ ap (λ n. epoch_day first_date +ℤ pos (n - 1)) e ∙ sym other) in
    (omega (arith, signed_arith, same.0), same.1, same.2)

last_test : (a b : Bool) → IsTrue (a && b) → IsTrue b
last_test true b h = h
last_test false true h = refl
last_test false false h = h

clock_tests : (h m s c : ℕ) → IsTrue (nat_lt h 24 && nat_lt m 60 && nat_lt s 60 && nat_lt c 100) → (h < 24) × (m < 60) × (s < 60) × (c < 100)
clock_tests h m s c tests = (search rules, search rules, search rules, search rules)

clock : (p : Parts) → IsCivil p → (p.hour < 24) × (p.minute < 60) × (p.second < 60) × (p.centi < 100)
clock p h = clock_tests p.hour p.minute p.second p.centi (last_test (is_date p) (is_time_of_day p) h)

days_and_centis : (d e m n : ℕ) → m < 8_640_000 → n < 8_640_000 → d * 8_640_000 + m ≡ e * 8_640_000 + n → (d ≡ e) × (m ≡ n)
days_and_centis d e m n hm hn same = omega arith

clock_of_centi : (h m s c i j k l : ℕ) → m < 60 → s < 60 → c < 100 → j < 60 → k < 60 → l < 100 → ((h * 60 + m) * 60 + s) * 100 + c ≡ ((i * 60 + j) * 60 + k) * 100 + l → (h ≡ i) × (m ≡ j) × (s ≡ k) × (c ≡ l)
clock_of_centi h m s c i j k l hm hs hc hj hk hl e = omega arith

centi_bound : (h m s c : ℕ) → h < 24 → m < 60 → s < 60 → c < 100 → ((h * 60 + m) * 60 + s) * 100 + c < 8_640_000
centi_bound h m s c hh hm hs hc = omega arith

pub same_parts : (p q : Parts) → p.year ≡ q.year → p.month ≡ q.month → p.day ≡ q.day → p.hour ≡ q.hour → p.minute ≡ q.minute → p.second ≡ q.second → p.centi ≡ q.centi → p ≡ q
same_parts p q y m d h n s c i = record { year = y i; month = m i; day = d i; hour = h i; minute = n i; second = s i; centi = c i }

-- the hundredths tell the civil time
pub centis_injective : (p q : Parts) → IsCivil p → IsCivil q → centis p ≡ centis q → p ≡ q
centis_injective p q hp hq e =
    let cp = clock p hp in
    let cq = clock q hq in
    let split = days_and_centis (day_number p) (day_number q) (centi_of_day p) (centi_of_day q) (centi_bound _ _ _ _ cp.0 cp.1 cp.2 cp.3) (centi_bound _ _ _ _ cq.0 cq.1 cq.2 cq.3) e in
    let date = date_of_day_number p q (IsCivil-is_date p hp) (IsCivil-is_date q hq) split.0 in
    let time = clock_of_centi p.hour p.minute p.second p.centi q.hour q.minute q.second q.centi cp.1 cp.2 cp.3 cq.1 cq.2 cq.3 split.1 in
    same_parts p q date.0 date.1 date.2 time.0 time.1 time.2 time.3
