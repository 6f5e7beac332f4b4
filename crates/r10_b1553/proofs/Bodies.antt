-- A body of bus messages is a body of its form.
use Rattle.std.proofs.Common.{◌≡◌, ℕ, get_or, ◌+◌, ◌%◌, ◌^◌, ◌<◌, List, [], ◌∷◌, length, drop, refl, sym, ap, ◌∙◌, arith}
use Rattle.std.proofs.lemmas.Bool.{eq-eqb, eqb-true}
use Rattle.std.specs.List.{flat_map, AllByRecursion, sum_by}
use Rattle.r10_count.specs.Form.{IsBody, IsForeign, FitsAll, OpensAll, SuitsAll, spelled_all, body_bytes}
use Rattle.r10_count.proofs.Bodies.{one_spelled}
use Rattle.r10_count.proofs.Lengths.{next_long, sizes_from}
use Rattle.r10_count.proofs.Plain.{plain_spelled, plain_fits, plain_all}
use Rattle.r10_b1553.specs.Bus.{FitsBus, IsBus, IsForeignBus, bus_body, bus_entry, bus_entry_size}
use Rattle.r10_b1553.specs.Entry.{bus_form, bus_entry-size}
use Rattle.r10_b1553.specs.declared.entry.BusEntry.{BusEntry}

pub spelled_is : (before : ℕ) (es : List BusEntry) → spelled_all bus_form before es ≡ flat_map bus_entry es
spelled_is = plain_spelled bus_form bus_entry (λ before e. refl)

pub fits_are : (before : ℕ) (es : List BusEntry) → AllByRecursion FitsBus es → FitsAll bus_form before es
fits_are = plain_fits bus_form FitsBus (λ before e h. h)

pub are_fits : (before : ℕ) (es : List BusEntry) → FitsAll bus_form before es → AllByRecursion FitsBus es
are_fits = plain_all bus_form FitsBus (λ before e h. h)

-- a number of 24 bits is written whole
pub bytes_are : (es : List BusEntry) → length es < 2 ^ 24 → body_bytes bus_form 0 0 es ≡ bus_body es
bytes_are es lt = let whole : length es % 16777216 ≡ length es = omega arith in rw (whole, spelled_is 0 es) refl

some_opens : (es : List BusEntry) → 0 < length es → OpensAll bus_form 0 es
some_opens [] lt = omega arith
some_opens (e ∷ es) lt = refl

opens_some : (es : List BusEntry) → OpensAll bus_form 0 es → 0 < length es
opens_some [] h = absurd h
opens_some (e ∷ es) h = omega arith

all_suit : (es : List BusEntry) → SuitsAll bus_form 0 es
all_suit [] = tt
all_suit (e ∷ es) = (refl, all_suit es)

pub body_is : (es : List BusEntry) (body : List ℕ) → IsBus es body → IsBody bus_form 0 0 es body
body_is es body is =
    let lt = is.0.counted in
    record {
      opens = some_opens es is.0.some;
      suits = all_suit es;
      agrees = eq-eqb (length es % 16777216 % 16777216) (length es) (omega arith);
      fits = fits_are 0 es is.0.fields;
      spelled = is.1 ∙ sym (bytes_are es lt);
    }

pub is_body : (es : List BusEntry) (body : List ℕ) → IsBody bus_form 0 0 es body → IsBus es body
is_body es body is =
    let reported = eqb-true (length es % 16777216 % 16777216) (length es) is.agrees in
    let lt : length es < 2 ^ 24 = omega arith in
    (record { some = opens_some es is.opens; counted = lt; fields = are_fits 0 es is.fits }, is.spelled ∙ bytes_are es lt)

pub foreign_is : (body : List ℕ) → IsForeign bus_form body → IsForeignBus body
foreign_is body f = (f.0, f.1, f.2, eqb-true (f.0 % 16777216) (length f.1) f.3, f.4, f.5)

-- a body is made of one list of entries
pub one_bus_body : (es ds : List BusEntry) → AllByRecursion FitsBus es → AllByRecursion FitsBus ds → bus_body es ≡ bus_body ds → es ≡ ds
one_bus_body es ds fe fd same =
    one_spelled bus_form 0 es ds (fits_are 0 es fe) (fits_are 0 ds fd) (spelled_is 0 es ∙ ap (drop 4) same ∙ sym (spelled_is 0 ds))

-- the entries that are left are the next one and those after it
pub next_size : (es : List BusEntry) (i : ℕ) (e : BusEntry) → i < length es → e ≡ get_or es i e → length (flat_map bus_entry (drop i es)) ≡ bus_entry_size e + length (flat_map bus_entry (drop (i + 1) es))
next_size = next_long bus_entry bus_entry_size bus_entry-size

-- a body has its word and the sizes of its entries
pub body-length : (es : List BusEntry) → length (bus_body es) ≡ 4 + sum_by bus_entry_size es
body-length es = omega (arith, sizes_from bus_entry bus_entry_size bus_entry-size 0 es)
