-- A body of messages is a body of its form.
use Rattle.std.proofs.Common.{◌≡◌, ℕ, ◌+◌, ◌%◌, ◌^◌, ◌<◌, List, [], ◌∷◌, ◌++◌, length, drop, refl, sym, ap, ◌∙◌, arith}
use Rattle.std.proofs.lemmas.Bool.{eq-eqb, eqb-true}
use Rattle.std.specs.List.{flat_map, AllByRecursion, sum_by}
use Rattle.r10_count.specs.Form.{IsBody, IsForeign, FitsAll, OpensAll, SuitsAll, spelled_all, body_bytes}
use Rattle.r10_count.proofs.Bodies.{one_spelled}
use Rattle.r10_count.proofs.BodyParts.{first_is}
use Rattle.r10_count.proofs.Lengths.{sizes_from}
use Rattle.r10_count.specs.Texts.{told_size}
use Rattle.r10_count.proofs.Plain.{plain_spelled, plain_fits, plain_all}
use Rattle.r10_message.specs.Message.{FitsMessage, IsMessage, IsForeignMessage, message_body, message_entry, message_entry_size}
use Rattle.r10_message.specs.Entry.{message_form, message_entry-told, message_entry-one, message_entry-size}
use Rattle.r10_message.specs.declared.entry.MessageEntry.{MessageEntry}

pub spelled_is : (before : ℕ) (es : List MessageEntry) → spelled_all message_form before es ≡ flat_map message_entry es
spelled_is = plain_spelled message_form message_entry (λ before e. refl)

pub fits_are : (before : ℕ) (es : List MessageEntry) → AllByRecursion FitsMessage es → FitsAll message_form before es
fits_are = plain_fits message_form FitsMessage (λ before e h. h)

pub are_fits : (before : ℕ) (es : List MessageEntry) → FitsAll message_form before es → AllByRecursion FitsMessage es
are_fits = plain_all message_form FitsMessage (λ before e h. h)

-- a number of 16 bits is written whole
pub bytes_are : (es : List MessageEntry) → length es < 2 ^ 16 → body_bytes message_form 0 0 es ≡ message_body es
bytes_are es lt = let whole : length es % 65536 ≡ length es = omega arith in rw (whole, spelled_is 0 es) refl

some_opens : (es : List MessageEntry) → 0 < length es → OpensAll message_form 0 es
some_opens [] lt = omega arith
some_opens (e ∷ es) lt = refl

opens_some : (es : List MessageEntry) → OpensAll message_form 0 es → 0 < length es
opens_some [] h = absurd h
opens_some (e ∷ es) h = omega arith

all_suit : (es : List MessageEntry) → SuitsAll message_form 0 es
all_suit [] = tt
all_suit (e ∷ es) = (refl, all_suit es)

pub body_is : (es : List MessageEntry) (body : List ℕ) → IsMessage es body → IsBody message_form 0 0 es body
body_is es body is =
    let lt = is.0.counted in
    record {
      opens = some_opens es is.0.some;
      suits = all_suit es;
      agrees = eq-eqb (length es % 65536 % 65536) (length es) (omega arith);
      fits = fits_are 0 es is.0.fields;
      spelled = is.1 ∙ sym (bytes_are es lt);
    }

pub is_body : (es : List MessageEntry) (body : List ℕ) → IsBody message_form 0 0 es body → IsMessage es body
is_body es body is =
    let reported = eqb-true (length es % 65536 % 65536) (length es) is.agrees in
    let lt : length es < 2 ^ 16 = omega arith in
    (record { some = opens_some es is.opens; counted = lt; fields = are_fits 0 es is.fits }, is.spelled ∙ bytes_are es lt)

pub foreign_is : (body : List ℕ) → IsForeign message_form body → IsForeignMessage body
foreign_is body f = (f.0, f.1, f.2, eqb-true (f.0 % 65536) (length f.1) f.3, f.4, f.5)

-- an entry is read from the front of bytes in one way
pub one_message_entry : (e d : MessageEntry) (x y : List ℕ) → FitsMessage e → FitsMessage d → message_entry e ++ x ≡ message_entry d ++ y → (e ≡ d) × (x ≡ y)
one_message_entry e d x y fe fd same =
    let first = first_is 12 told_size (message_entry e) x (message_entry d) y (message_entry-told e fe) (message_entry-told d fd) same in
    (message_entry-one e d fe fd first.0, first.1)

-- a body is made of one list of entries
pub one_message_body : (es ds : List MessageEntry) → AllByRecursion FitsMessage es → AllByRecursion FitsMessage ds → message_body es ≡ message_body ds → es ≡ ds
one_message_body es ds fe fd same =
    one_spelled message_form 0 es ds (fits_are 0 es fe) (fits_are 0 ds fd) (spelled_is 0 es ∙ ap (drop 4) same ∙ sym (spelled_is 0 ds))

-- a body has its word and the sizes of its entries
pub body-length : (es : List MessageEntry) → length (message_body es) ≡ 4 + sum_by message_entry_size es
body-length es = omega (arith, sizes_from message_entry message_entry_size message_entry-size 0 es)
