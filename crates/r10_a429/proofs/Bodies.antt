-- The body of an ARINC 429 packet is a body of its form.
use Rattle.std.proofs.Common.{◌≡◌, ℕ, ◌+◌, ◌*◌, ◌%◌, ◌<◌, List, [], ◌∷◌, ◌++◌, length, get_or, drop, refl, sym, ap, ◌∙◌, arith}
use Rattle.std.proofs.lemmas.Bool.{eq-eqb, eqb-true}
use Rattle.std.specs.List.{AllByRecursion, concat}
use Rattle.r10_count.specs.Bytes.{le_bytes}
use Rattle.r10_count.specs.Form.{IsBody, IsForeign, FitsAll, OpensAll, SuitsAll, spelled_all, body_bytes}
use Rattle.r10_count.proofs.Bodies.{one_spelled}
use Rattle.r10_count.proofs.Fixed.{fixed_length, fixed_parts}
use Rattle.r10_a429.specs.Arinc.{FitsArinc, FitsArincBody, HasShortGaps, HasGaps, IsArinc, IsForeignArinc, arinc_body, arinc_entries}
use Rattle.r10_a429.specs.Entry.{arinc_form}
use Rattle.r10_a429.specs.declared.entry.ArincEntry.{ArincEntry}

pub spelled_is : (before : ℕ) (es : List ArincEntry) → spelled_all arinc_form before es ≡ arinc_entries before es
spelled_is before [] = refl
spelled_is before (e ∷ es) = rw (spelled_is e.count es) refl

pub fits_are : (before : ℕ) (es : List ArincEntry) → AllByRecursion FitsArinc es → HasShortGaps before es → FitsAll arinc_form before es
fits_are before [] fields gaps = tt
fits_are before (e ∷ es) fields gaps = (record { fields = fields.0; soon = gaps.0 }, fits_are e.count es fields.1 gaps.1)

pub are_fits : (before : ℕ) (es : List ArincEntry) → FitsAll arinc_form before es → AllByRecursion FitsArinc es × HasShortGaps before es
are_fits before [] fits = (tt, tt)
are_fits before (e ∷ es) fits = let left = are_fits e.count es fits.1 in ((fits.0.fields, left.0), (fits.0.soon, left.1))

-- so many words are known by the low half of the channel specific data word
low_half : (n : ℕ) → n < 65536 → n % 65536 ≡ n
low_half n lt = omega arith

pub bytes_are : (counter : ℕ) (es : List ArincEntry) → length es < 65536 → body_bytes arinc_form 0 counter es ≡ arinc_body counter es
bytes_are counter es lt = rw (low_half (length es) lt, spelled_is counter es) refl

opens_as : (counter : ℕ) (es : List ArincEntry) → 0 < length es → HasGaps counter es → OpensAll arinc_form counter es
opens_as counter [] some gaps = omega (arith, some)
opens_as counter (e ∷ es) some gaps = eq-eqb e.count counter gaps.0.0

first_at : (counter : ℕ) (es : List ArincEntry) → OpensAll arinc_form counter es → HasShortGaps counter es → (0 < length es) × HasGaps counter es
first_at counter [] opens gaps = absurd opens
first_at counter (e ∷ es) opens gaps = (omega arith, ((eqb-true e.count counter opens, tt), gaps))

all_suit : (es : List ArincEntry) → SuitsAll arinc_form 0 es
all_suit [] = tt
all_suit (e ∷ es) = (refl, all_suit es)

pub body_is : (counter : ℕ) (es : List ArincEntry) (body : List ℕ) → IsArinc counter es body → IsBody arinc_form 0 counter es body
body_is counter es body is =
    let packet = is.0 in record {
      opens = opens_as counter es packet.some packet.gaps;
      suits = all_suit es;
      agrees = eq-eqb (length es % 65536 % 65536) (length es) (omega (arith, packet.reported));
      fits = fits_are counter es packet.fields packet.gaps.1;
      spelled = is.1 ∙ sym (bytes_are counter es packet.reported);
    }

pub is_body : (counter : ℕ) (es : List ArincEntry) (body : List ℕ) → IsBody arinc_form 0 counter es body → IsArinc counter es body
is_body counter es body is =
    let reported : length es < 65536 = omega (arith, eqb-true (length es % 65536 % 65536) (length es) is.agrees) in
    let fits = are_fits counter es is.fits in
    let first = first_at counter es is.opens fits.1 in
    (record { some = first.0; reported = reported; fields = fits.0; gaps = first.1 }, is.spelled ∙ bytes_are counter es reported)

pub foreign_is : (body : List ℕ) → IsForeign arinc_form body → IsForeignArinc body
foreign_is body f = (f.0, concat f.1, f.2, omega (arith, fixed_length 8 f.1 f.4, eqb-true (f.0 % 65536) (length f.1) f.3), f.5)

pub is_foreign : (body : List ℕ) → IsForeignArinc body → IsForeign arinc_form body
is_foreign body f =
    let parts = fixed_parts 8 (f.0 % 65536) f.1 (omega (arith, f.3)) in
    (f.0, parts.0, f.2, eq-eqb (f.0 % 65536) (length parts.0) (sym parts.2), parts.1, f.4 ∙ ap (λ t. le_bytes 4 f.0 ++ t) parts.3)

-- a body is made of one list of words
pub one_arinc_body : (counter : ℕ) (es ds : List ArincEntry) → FitsArincBody counter es → FitsArincBody counter ds → arinc_body counter es ≡ arinc_body counter ds → es ≡ ds
one_arinc_body counter es ds fe fd same =
    one_spelled arinc_form counter es ds (fits_are counter es fe.fields fe.gaps.1) (fits_are counter ds fd.fields fd.gaps.1) (spelled_is counter es ∙ ap (drop 4) same ∙ sym (spelled_is counter ds))

-- a body has its channel specific data word and eight bytes a word
entries-length : (before : ℕ) (es : List ArincEntry) → length (arinc_entries before es) ≡ 8 * length es
entries-length before [] = refl
entries-length before (e ∷ es) = omega (arith, entries-length e.count es)

pub body-length : (counter : ℕ) (es : List ArincEntry) → length (arinc_body counter es) ≡ 4 + 8 * length es
body-length counter es = omega (arith, entries-length counter es)

-- words of a packet, by their first
pub packet_from : (counter : ℕ) (es : List ArincEntry) (d : ArincEntry) → 0 < length es → (get_or es 0 d).count ≡ counter → length es < 65536 → FitsAll arinc_form counter es → FitsArincBody counter es
packet_from counter [] d some first reported fits = absurd (omega (arith, some))
packet_from counter (e ∷ es) d some first reported fits = let are = are_fits counter (e ∷ es) fits in record { some = some; reported = reported; fields = are.0; gaps = ((first, tt), are.1) }

pub packet_fits : (counter : ℕ) (es : List ArincEntry) → FitsArincBody counter es → FitsAll arinc_form counter es
packet_fits counter es packet = fits_are counter es packet.fields packet.gaps.1
