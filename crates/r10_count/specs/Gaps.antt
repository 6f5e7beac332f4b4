-- The least form that uses all that a form can say: counts, each spelled by its gap since the one before in a byte below 128.
use Rattle.std.specs.Prelude.{◌≡◌, ◌+◌, ◌-◌, ◌*◌, ◌%◌, ◌^◌, ◌<◌, ◌≤◌, ◌==◌, ℕ, Bool, true, false, cond, Option, Some, None, List}
use Rattle.std.specs.Prelude.{[], ◌∷◌, slice_index, nat_lt, refl}
use Rattle.std.proofs.Common.{arith, lit<}
use Rattle.std.proofs.lemmas.Bool.{eq-eqb, lt-ltb}
use Rattle.r10_count.specs.Form.{Form, IsEntryBytes}

-- a byte of 128 or more begins no entry
abbrev pub told_gap : List ℕ → Option ℕ
told_gap front = cond (nat_lt (slice_index front 0) 128) (Some 1) None

pub record FitsGap (before e : ℕ) : Type 0 where
  pub count : e < 2 ^ 48
  pub later : before ≤ e
  pub soon : e < before + 128

told_one : (b : Bool) (n : ℕ) → cond b (Some 1) None ≡ Some n → 1 ≤ n
told_one true n e = let one : 1 ≡ n = cc in omega arith
told_one false n e = absurd cc

pub gap-covers : (front : List ℕ) (n : ℕ) → told_gap front ≡ Some n → 1 ≤ n
gap-covers front n e = told_one (nat_lt (slice_index front 0) 128) n e

pub gap-tells : (before count : ℕ) → FitsGap before count → IsEntryBytes 1 told_gap ((count - before) ∷ [])
gap-tells before count fits = (lit< tt, rw (lt-ltb (count - before) 128 (omega arith)) refl)

pub gap-one : (before count other : ℕ) → FitsGap before count → FitsGap before other → (count - before) ∷ [] ≡ (other - before) ∷ []
    → count ≡ other
gap-one before count other fits others e = let gaps : count - before ≡ other - before = cc
    in omega (arith, fits.later, others.later, gaps)

pub gap-word : (setting n : ℕ) → 256 * (setting % 65536) + n % 256 < 2 ^ 32
gap-word setting n = omega arith

-- a packet's first count is its counter, a channel's counts are below its setting, and the word has the setting and the number
-- of counts
abbrev pub gap_form : Form ℕ
gap_form = record {
  front = 1;
  reported = told_gap;
  count = λ e. e;
  spelled = λ before e. (e - before) ∷ [];
  size = λ e. 1;
  Fits = FitsGap;
  opens = λ counter e. e == counter;
  suits = λ setting e. nat_lt e setting;
  word = λ setting n. 256 * (setting % 65536) + n % 256;
  agrees = λ word n. word % 256 == n;
  some = lit< tt;
  covers = gap-covers;
  sized = λ before e fits. refl;
  tells = gap-tells;
  one = gap-one;
  alone = λ e. eq-eqb e e refl;
  worded = gap-word;
}
