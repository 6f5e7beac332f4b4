-- The body of a discrete packet is a body of its form.
use Rattle.std.proofs.Common.{◌≡◌, ℕ, Bool, true, false, ◌+◌, ◌*◌, ◌/◌, ◌%◌, ◌^◌, ◌<◌, ◌≤◌, List, [], ◌∷◌, ◌++◌, length, nat_eq, nat_lt, refl, sym, ap, ◌∙◌, arith}
use Rattle.std.proofs.lemmas.Bool.{eq-eqb, eqb-true, lt-ltb, ltb-true, and_from, and_parts}
use Rattle.std.proofs.lemmas.Nat.{pow_pos}
use Rattle.std.proofs.Math.Nat.{div-eq_of_lt, div-lt_iff_lt-mul}
use Rattle.std.proofs.Math.Pow.{pow_mono}
use Rattle.std.specs.Prelude.{◌&&◌}
use Rattle.std.specs.List.{AllByRecursion, concat, flat_map}
use Rattle.r10_count.specs.Bytes.{le_bytes}
use Rattle.r10_count.specs.Count.{IsCount}
use Rattle.r10_count.proofs.Fronts.{same_u32}
use Rattle.r10_count.specs.Form.{IsBody, IsForeign, FitsAll, OpensAll, SuitsAll, spelled_all, body_bytes}
use Rattle.r10_count.proofs.Bodies.{one_spelled}
use Rattle.r10_count.proofs.Fixed.{fixed_length, fixed_parts}
use Rattle.r10_count.proofs.Plain.{plain_spelled}
use Rattle.r10_discrete.specs.Discrete.{FitsDiscrete, FitsDiscreteBody, IsDiscrete, IsForeignDiscrete, discrete_body, discrete_entry}
use Rattle.r10_discrete.specs.Entry.{discrete_form, has_only}
use Rattle.r10_discrete.specs.declared.entry.DiscreteEntry.{DiscreteEntry}

pub spelled_is : (before : ℕ) (es : List DiscreteEntry) → spelled_all discrete_form before es ≡ flat_map discrete_entry es
spelled_is = plain_spelled discrete_form discrete_entry (λ before e. refl)

-- the states of so many discretes have no bit beyond them
pub no_bit : (states bits : ℕ) → states < 2 ^ bits → nat_eq (states / 2 ^ bits) 0 ≡ true
no_bit states bits lt = eq-eqb (states / 2 ^ bits) 0 (div-eq_of_lt lt)

pub below : (states bits : ℕ) → nat_eq (states / 2 ^ bits) 0 ≡ true → states < 2 ^ bits
below states bits e =
    let none : states / 2 ^ bits ≡ 0 = eqb-true (states / 2 ^ bits) 0 e in
    let lt : states < 1 * 2 ^ bits = (div-lt_iff_lt-mul (pow_pos bits)).0 (omega (arith, none)) in
    omega (arith, lt)

same_truth : (b c : Bool) → (b ≡ true → c ≡ true) → (c ≡ true → b ≡ true) → b ≡ c
same_truth true c there back = sym (there refl)
same_truth false true there back = back refl
same_truth false false there back = refl

-- states that have no bit left when they are shifted are below the power of two
pub no_state : (states bits : ℕ) → nat_eq (states / 2 ^ bits) 0 ≡ nat_lt states (2 ^ bits)
no_state states bits =
    same_truth (nat_eq (states / 2 ^ bits) 0) (nat_lt states (2 ^ bits))
    (λ e. lt-ltb states (2 ^ bits) (below states bits e))
    (λ e. no_bit states bits (ltb-true states (2 ^ bits) e))

-- no state of 32 bits is beyond 32 discretes or more
pub within : (states bits : ℕ) → states < 2 ^ 32 → 32 ≤ bits → states < 2 ^ bits
within states bits lt most = let up : 2 ^ 32 ≤ 2 ^ bits = pow_mono most in omega (arith, lt, up)

pub only_is : (bits : ℕ) (e : DiscreteEntry) → 1 ≤ bits → bits ≤ 31 → FitsDiscrete bits e → has_only bits e.message.states ≡ true
only_is bits e some most fits =
    let few : nat_lt 0 bits && nat_lt bits 32 ≡ true = and_from (nat_lt 0 bits) (nat_lt bits 32) (lt-ltb 0 bits (omega (arith, some))) (lt-ltb bits 32 (omega (arith, most))) in
    and_from (nat_lt 0 bits && nat_lt bits 32) (nat_lt e.message.states (2 ^ bits)) few (lt-ltb e.message.states (2 ^ bits) fits.1)

pub is_only : (bits : ℕ) (e : DiscreteEntry) → IsCount e.count → has_only bits e.message.states ≡ true → (1 ≤ bits) × (bits ≤ 31) × FitsDiscrete bits e
is_only bits e count is =
    let both = and_parts (nat_lt 0 bits && nat_lt bits 32) (nat_lt e.message.states (2 ^ bits)) is in
    let few = and_parts (nat_lt 0 bits) (nat_lt bits 32) both.0 in
    let some : 0 < bits = ltb-true 0 bits few.0 in
    let most : bits < 32 = ltb-true bits 32 few.1 in
    (omega (arith, some), omega (arith, most), (count, ltb-true e.message.states (2 ^ bits) both.1))

-- 31 discretes at most are states of 32 bits
states-fit : (states bits : ℕ) → bits ≤ 31 → states < 2 ^ bits → states < 2 ^ 32
states-fit states bits most lt = let up : 2 ^ bits ≤ 2 ^ 31 = pow_mono most in omega (arith, lt, up)

pub fits_are : (bits before : ℕ) (es : List DiscreteEntry) → bits ≤ 31 → AllByRecursion (FitsDiscrete bits) es → FitsAll discrete_form before es
fits_are bits before [] most fields = tt
fits_are bits before (e ∷ es) most fields = (record { count = fields.0.0; states = states-fit e.message.states bits most fields.0.1 }, fits_are bits e.count es most fields.1)

pub suit_all : (bits : ℕ) (es : List DiscreteEntry) → 1 ≤ bits → bits ≤ 31 → AllByRecursion (FitsDiscrete bits) es → SuitsAll discrete_form bits es
suit_all bits [] some most fields = tt
suit_all bits (e ∷ es) some most fields = (only_is bits e some most fields.0, suit_all bits es some most fields.1)

pub all_suited : (bits before : ℕ) (es : List DiscreteEntry) → FitsAll discrete_form before es → SuitsAll discrete_form bits es → AllByRecursion (FitsDiscrete bits) es
all_suited bits before [] fits suits = tt
all_suited bits before (e ∷ es) fits suits = ((is_only bits e fits.0.count suits.0).2, all_suited bits e.count es fits.1 suits.1)

-- the word of 31 discretes at most
low_bits : (bits : ℕ) → bits ≤ 31 → 8 * (bits % 32) ≡ 8 * bits
low_bits bits most = omega arith

pub bytes_are : (bits : ℕ) (es : List DiscreteEntry) → bits ≤ 31 → body_bytes discrete_form bits 0 es ≡ discrete_body bits es
bytes_are bits es most = rw (low_bits bits most, spelled_is 0 es) refl

some_opens : (es : List DiscreteEntry) → 0 < length es → OpensAll discrete_form 0 es
some_opens [] lt = omega (arith, lt)
some_opens (e ∷ es) lt = refl

-- there is an entry, which says how many discretes there may be
first_says : (bits : ℕ) (es : List DiscreteEntry) → OpensAll discrete_form 0 es → FitsAll discrete_form 0 es → SuitsAll discrete_form bits es → (0 < length es) × (1 ≤ bits) × (bits ≤ 31)
first_says bits [] opens fits suits = absurd opens
first_says bits (e ∷ es) opens fits suits = let only = is_only bits e fits.0.count suits.0 in (omega arith, only.0, only.1)

pub body_is : (bits : ℕ) (es : List DiscreteEntry) (body : List ℕ) → IsDiscrete bits es body → IsBody discrete_form bits 0 es body
body_is bits es body is =
    let packet = is.0 in record {
      opens = some_opens es packet.some;
      suits = suit_all bits es packet.discretes.0 packet.discretes.1 packet.fields;
      agrees = refl;
      fits = fits_are bits 0 es packet.discretes.1 packet.fields;
      spelled = is.1 ∙ sym (bytes_are bits es packet.discretes.1);
    }

pub is_body : (bits : ℕ) (es : List DiscreteEntry) (body : List ℕ) → IsBody discrete_form bits 0 es body → IsDiscrete bits es body
is_body bits es body is =
    let first = first_says bits es is.opens is.fits is.suits in
    (record { some = first.0; discretes = (first.1, first.2); fields = all_suited bits 0 es is.fits is.suits }, is.spelled ∙ bytes_are bits es first.2)

-- a body that its word says of other discretes is not one of these
pub told_is : (reported bits : ℕ) (es : List DiscreteEntry) (body : List ℕ) → ((other : ℕ) (rest : List ℕ) → other < 32 → body ≡ le_bytes 4 (8 * other) ++ rest → reported ≡ other) → IsDiscrete bits es body → reported ≡ bits
told_is reported bits es body tells is = tells bits (flat_map discrete_entry es) (omega (arith, is.0.discretes.1)) is.1

pub told_body : (reported bits : ℕ) (es : List DiscreteEntry) (body : List ℕ) → ((other : ℕ) (rest : List ℕ) → other < 32 → body ≡ le_bytes 4 (8 * other) ++ rest → reported ≡ other) → IsDiscrete bits es body → IsBody discrete_form reported 0 es body
told_body reported bits es body tells is = rw (told_is reported bits es body tells is) (body_is bits es body is)

pub foreign_is : (body : List ℕ) → IsForeign discrete_form body → IsForeignDiscrete body
foreign_is body f = (f.0, concat f.1, length f.1, f.2, omega (arith, fixed_length 12 f.1 f.4), f.5)

pub is_foreign : (body : List ℕ) → IsForeignDiscrete body → IsForeign discrete_form body
is_foreign body f =
    let parts = fixed_parts 12 f.2 f.1 (omega (arith, f.4)) in
    (f.0, parts.0, f.3, refl, parts.1, f.5 ∙ ap (λ t. le_bytes 4 f.0 ++ t) parts.3)

-- a body is made of one number of discretes and one list of entries
pub one_discrete_body : (bits others : ℕ) (es ds : List DiscreteEntry) → FitsDiscreteBody bits es → FitsDiscreteBody others ds → discrete_body bits es ≡ discrete_body others ds → (bits ≡ others) × (es ≡ ds)
one_discrete_body bits others es ds fe fd same =
    let words = same_u32 (8 * bits) (8 * others) (flat_map discrete_entry es) (flat_map discrete_entry ds) (omega (arith, fe.discretes.1)) (omega (arith, fd.discretes.1)) same in (
      omega (arith, words.0),
      one_spelled discrete_form 0 es ds (fits_are bits 0 es fe.discretes.1 fe.fields) (fits_are others 0 ds fd.discretes.1 fd.fields) (spelled_is 0 es ∙ words.1 ∙ sym (spelled_is 0 ds)),
    )

-- a body has its word and twelve bytes an entry
entries-length : (es : List DiscreteEntry) → length (flat_map discrete_entry es) ≡ 12 * length es
entries-length [] = refl
entries-length (e ∷ es) = omega (arith, entries-length es)

pub body-length : (bits : ℕ) (es : List DiscreteEntry) → length (discrete_body bits es) ≡ 4 + 12 * length es
body-length bits es = omega (arith, entries-length es)
