-- ARINC words as entries of a body.
use Rattle.std.specs.Prelude.{◌≡◌, ℕ, ◌+◌, ◌-◌, ◌%◌, ◌^◌, ◌<◌, ◌≤◌, ◌==◌, Bool, true, false, Some, [], refl}
use Rattle.std.proofs.Common.{arith, lit<}
use Rattle.std.proofs.lemmas.Bool.{eq-eqb}
use Rattle.r10_count.specs.Bytes.{le_bytes, flag_at}
use Rattle.r10_count.proofs.Fronts.{same_u32}
use Rattle.r10_count.specs.Form.{Form}
use Rattle.r10_a429.specs.Arinc.{arinc_entry, arinc_header, FitsArinc, FollowsSoon}
use Rattle.r10_a429.specs.declared.entry.ArincEntry.{ArincEntry}

-- the ranges of the fields, and a gap of at most a tenth of a second
pub record FitsBehind (before : ℕ) (e : ArincEntry) : Type 0 where
  pub fields : FitsArinc e
  pub soon : FollowsSoon before e

pub eight_at_least : (n : ℕ) → Some 8 ≡ Some n → 8 ≤ n
eight_at_least n e = let is : 8 ≡ n = cc in omega arith

pub low_word : (n : ℕ) → n % 65536 < 2 ^ 32
low_word n = omega arith

-- the low bits of a header: flags and gap
abbrev pub low_bits : Bool → Bool → Bool → ℕ → ℕ
low_bits f p h gap = flag_at 23 f + flag_at 22 p + flag_at 21 h + gap

low_fits : (f p h : Bool) (gap : ℕ) → gap ≤ 1000000 → low_bits f p h gap < 2 ^ 24
low_fits true true true gap hg = omega arith
low_fits true true false gap hg = omega arith
low_fits true false true gap hg = omega arith
low_fits true false false gap hg = omega arith
low_fits false true true gap hg = omega arith
low_fits false true false gap hg = omega arith
low_fits false false true gap hg = omega arith
low_fits false false false gap hg = omega arith

-- a flag above low bits is known by their sum
bit_21 : (b c : Bool) (low other : ℕ) → low < 2 ^ 21 → other < 2 ^ 21 → flag_at 21 b + low ≡ flag_at 21 c + other → (b ≡ c)
    × (low ≡ other)
bit_21 true true low other hl ho e = (refl, omega arith)
bit_21 false false low other hl ho e = (refl, omega arith)
bit_21 true false low other hl ho e = absurd (omega arith)
bit_21 false true low other hl ho e = absurd (omega arith)

low_22 : (h : Bool) (gap : ℕ) → gap ≤ 1000000 → flag_at 21 h + gap < 2 ^ 22
low_22 true gap hg = omega arith
low_22 false gap hg = omega arith

low_23 : (p h : Bool) (gap : ℕ) → gap ≤ 1000000 → flag_at 22 p + (flag_at 21 h + gap) < 2 ^ 23
low_23 true h gap hg = let l = low_22 h gap hg in omega arith
low_23 false h gap hg = let l = low_22 h gap hg in omega arith

bit_22 : (b c : Bool) (low other : ℕ) → low < 2 ^ 22 → other < 2 ^ 22 → flag_at 22 b + low ≡ flag_at 22 c + other → (b ≡ c)
    × (low ≡ other)
bit_22 true true low other hl ho e = (refl, omega arith)
bit_22 false false low other hl ho e = (refl, omega arith)
bit_22 true false low other hl ho e = absurd (omega arith)
bit_22 false true low other hl ho e = absurd (omega arith)

bit_23 : (b c : Bool) (low other : ℕ) → low < 2 ^ 23 → other < 2 ^ 23 → flag_at 23 b + low ≡ flag_at 23 c + other → (b ≡ c)
    × (low ≡ other)
bit_23 true true low other hl ho e = (refl, omega arith)
bit_23 false false low other hl ho e = (refl, omega arith)
bit_23 true false low other hl ho e = absurd (omega arith)
bit_23 false true low other hl ho e = absurd (omega arith)

same_fields : (e d : ArincEntry) → e.count ≡ d.count → e.message.bus ≡ d.message.bus → e.message.format ≡ d.message.format
    → e.message.parity ≡ d.message.parity → e.message.high ≡ d.message.high → e.message.word ≡ d.message.word → e ≡ d
same_fields e d c b f p h w =
    let made : ArincEntry =
    record {
      count = d.count;
      message = record {
        bus = d.message.bus;
        format = d.message.format;
        parity = d.message.parity;
        high = d.message.high;
        word = d.message.word;
      };
    } in
    let is : record {
      count = e.count;
      message = record {
        bus = e.message.bus;
        format = e.message.format;
        parity = e.message.parity;
        high = e.message.high;
        word = e.message.word;
      };
    } ≡ made = rw (c, b, f, p, h, w) refl in is

pub arinc_one : (before : ℕ) (e d : ArincEntry) → FitsBehind before e → FitsBehind before d
    → arinc_entry (e.count - before) e ≡ arinc_entry (d.count - before) d → e ≡ d
arinc_one before e d fe fd same =
    let ge : e.count - before ≤ 1000000 = omega (arith, fe.soon.0, fe.soon.1) in
    let gd : d.count - before ≤ 1000000 = omega (arith, fd.soon.0, fd.soon.1) in
    let le = low_fits e.message.format e.message.parity e.message.high (e.count - before) ge in
    let ld = low_fits d.message.format d.message.parity d.message.high (d.count - before) gd in
    let words = same_u32 (arinc_header (e.count - before) e) (arinc_header (d.count - before) d) (le_bytes 4 e.message.word)
    (le_bytes 4 d.message.word)
    (omega (arith, fe.fields.bus, le)) (omega (arith, fd.fields.bus, ld)) same in
    let word = same_u32 e.message.word d.message.word [] [] fe.fields.word fd.fields.word words.1 in
    let bus : e.message.bus ≡ d.message.bus = omega (arith, words.0, le, ld) in
    let low : flag_at 23 e.message.format + (flag_at 22 e.message.parity + (flag_at 21 e.message.high + (e.count - before)))
    ≡ flag_at 23 d.message.format + (flag_at 22 d.message.parity + (flag_at 21 d.message.high + (d.count - before))) =
    omega (arith, words.0, bus) in
    let format = bit_23 e.message.format d.message.format
    (flag_at 22 e.message.parity + (flag_at 21 e.message.high + (e.count - before)))
    (flag_at 22 d.message.parity + (flag_at 21 d.message.high + (d.count - before)))
    (low_23 e.message.parity e.message.high (e.count - before) ge)
    (low_23 d.message.parity d.message.high (d.count - before) gd) low in
    let parity = bit_22 e.message.parity d.message.parity (flag_at 21 e.message.high + (e.count - before))
    (flag_at 21 d.message.high + (d.count - before)) (low_22 e.message.high (e.count - before) ge)
    (low_22 d.message.high (d.count - before) gd) format.1 in
    let high = bit_21 e.message.high d.message.high (e.count - before) (d.count - before) (omega arith) (omega arith) parity.1 in
    let count : e.count ≡ d.count = omega (arith, high.1, fe.soon.0, fd.soon.0) in
    same_fields e d count bus format.0 parity.0 high.0 word.0

abbrev pub arinc_form : Form ArincEntry
arinc_form = record {
  front = 8;
  reported = λ front. Some 8;
  count = λ e. e.count;
  size = λ e. 8;
  spelled = λ before e. arinc_entry (e.count - before) e;
  Fits = FitsBehind;
  opens = λ counter e. e.count == counter;
  suits = λ setting e. true;
  word = λ setting n. n % 65536;
  agrees = λ word n. word % 65536 == n;
  some = lit< tt;
  covers = λ front. eight_at_least;
  sized = λ before e fits. refl;
  tells = λ before e fits. (lit< tt, refl);
  one = arinc_one;
  alone = λ e. eq-eqb e.count e.count refl;
  worded = λ setting. low_word;
}
