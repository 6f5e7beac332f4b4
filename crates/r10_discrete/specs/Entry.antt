-- States of discretes as entries of a body.
use Rattle.std.specs.Prelude.{◌≡◌, ℕ, ◌*◌, ◌/◌, ◌%◌, ◌^◌, ◌<◌, ◌≤◌, ◌&&◌, ◌==◌, Bool, true, Some, [], nat_lt, refl}
use Rattle.std.proofs.Common.{arith, lit<}
use Rattle.r10_count.specs.Bytes.{le_bytes}
use Rattle.r10_count.specs.Count.{IsCount}
use Rattle.r10_count.proofs.Fronts.{same_stamp, same_u32}
use Rattle.r10_count.specs.Form.{Form}
use Rattle.r10_discrete.specs.Discrete.{discrete_entry}
use Rattle.r10_discrete.specs.declared.entry.DiscreteEntry.{DiscreteEntry}

-- the ranges of the fields, with any number of discretes
pub record FitsFields (e : DiscreteEntry) : Type 0 where
  pub count : IsCount e.count
  pub states : e.message.states < 2 ^ 32

pub twelve : (n : ℕ) → Some 12 ≡ Some n → 12 ≤ n
twelve n e = let is : 12 ≡ n = cc in omega arith

pub discrete_word-fits : (setting : ℕ) → 8 * (setting % 32) < 2 ^ 32
discrete_word-fits setting = omega arith

abbrev entry_of : ℕ → ℕ → DiscreteEntry
entry_of count states = record { count = count; message = record { states = states } }

same_fields : (m n x y : ℕ) → m ≡ n → x ≡ y → entry_of m x ≡ entry_of n y
same_fields m n x y counts states = rw (counts, states) refl

-- no other entry is spelled so
pub discrete_entry-one : (e d : DiscreteEntry) → FitsFields e → FitsFields d → discrete_entry e ≡ discrete_entry d → e ≡ d
discrete_entry-one e d fe fd same =
    let first = same_stamp e.count d.count (le_bytes 4 e.message.states) (le_bytes 4 d.message.states) fe.count fd.count same in
    let second = same_u32 e.message.states d.message.states [] [] fe.states fd.states first.1 in
    same_fields e.count d.count e.message.states d.message.states first.0 second.0

-- there are 1 to 31 discretes, and no other state is set
abbrev pub has_only : ℕ → ℕ → Bool
has_only bits states = nat_lt 0 bits && nat_lt bits 32 && nat_lt states (2 ^ bits)

abbrev pub discrete_form : Form DiscreteEntry
discrete_form = record {
  front = 12;
  reported = λ front. Some 12;
  count = λ e. e.count;
  spelled = λ before e. discrete_entry e;
  size = λ e. 12;
  Fits = λ before e. FitsFields e;
  opens = λ counter e. true;
  suits = λ bits e. has_only bits e.message.states;
  word = λ setting n. 8 * (setting % 32);
  agrees = λ word n. true;
  some = lit< tt;
  covers = λ front. twelve;
  sized = λ before e fits. refl;
  tells = λ before e fits. (lit< tt, refl);
  one = λ before e d. discrete_entry-one e d;
  alone = λ e. refl;
  worded = λ setting n. discrete_word-fits setting;
}
