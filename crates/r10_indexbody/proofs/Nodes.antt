-- The body of a node is a body of its form.
use Rattle.std.proofs.Common.{◌≡◌, ℕ, Bool, true, false, ◌⊎◌, inl, inr, ◌==◌, ◌&&◌, ◌||◌, ◌+◌, ◌*◌, ◌/◌, ◌%◌, ◌^◌, ◌<◌, ◌≤◌, List, [], ◌∷◌, ◌++◌, length, drop, nat_eq, refl, sym, ap, ◌∙◌, arith}
use Rattle.std.proofs.lemmas.Bool.{eq-eqb, eqb-true, and_from, and_parts}
use Rattle.std.specs.List.{AllByRecursion, concat, flat_map}
use Rattle.r10_count.specs.Bytes.{le_bytes}
use Rattle.r10_count.specs.Form.{IsBody, IsForeign, FitsAll, OpensAll, SuitsAll, spelled_all, body_bytes}
use Rattle.r10_count.proofs.Bodies.{one_spelled}
use Rattle.r10_count.proofs.Fixed.{fixed_length, fixed_parts}
use Rattle.r10_count.proofs.Plain.{plain_spelled, plain_fits, plain_all}
use Rattle.r10_indexbody.specs.Index.{FitsNode, FitsNodeBody, IsNode, IsForeignNode, node_body, node_entry}
use Rattle.r10_indexbody.specs.Entry.{node_form}
use Rattle.r10_indexbody.specs.declared.entry.NodeEntry.{NodeEntry}

pub spelled_is : (before : ℕ) (es : List NodeEntry) → spelled_all node_form before es ≡ flat_map node_entry es
spelled_is = plain_spelled node_form node_entry (λ before e. refl)

pub fits_are : (before : ℕ) (es : List NodeEntry) → AllByRecursion FitsNode es → FitsAll node_form before es
fits_are = plain_fits node_form FitsNode (λ before e h. h)

pub are_fits : (before : ℕ) (es : List NodeEntry) → FitsAll node_form before es → AllByRecursion FitsNode es
are_fits = plain_all node_form FitsNode (λ before e h. h)

-- a number of 16 bits is written whole
pub bytes_are : (es : List NodeEntry) → length es < 2 ^ 16 → body_bytes node_form 0 0 es ≡ node_body es
bytes_are es lt = let whole : length es % 65536 ≡ length es = omega arith in rw (whole, spelled_is 0 es) refl

some_opens : (es : List NodeEntry) → 0 < length es → OpensAll node_form 0 es
some_opens [] lt = omega (arith, lt)
some_opens (e ∷ es) lt = refl

opens_some : (es : List NodeEntry) → OpensAll node_form 0 es → 0 < length es
opens_some [] h = absurd h
opens_some (e ∷ es) h = omega arith

all_suit : (es : List NodeEntry) → SuitsAll node_form 0 es
all_suit [] = tt
all_suit (e ∷ es) = (refl, all_suit es)

-- so many entries go with a word exactly where it is a node's and tells them
agrees_from : (word n : ℕ) → 2147483648 ≤ word → word < 2 ^ 32 → word % 65536 ≡ n → word / 2147483648 == 1 && word % 65536 == n ≡ true
agrees_from word n high lt reported = and_from (word / 2147483648 == 1) (word % 65536 == n) (eq-eqb (word / 2147483648) 1 (omega (arith, high, lt))) (eq-eqb (word % 65536) n reported)

agreed : (word n : ℕ) → word / 2147483648 == 1 && word % 65536 == n ≡ true → (2147483648 ≤ word) × (word % 65536 ≡ n)
agreed word n is =
    let parts = and_parts (word / 2147483648 == 1) (word % 65536 == n) is in
    (omega (arith, eqb-true (word / 2147483648) 1 parts.0), eqb-true (word % 65536) n parts.1)

pub body_is : (es : List NodeEntry) (body : List ℕ) → IsNode es body → IsBody node_form 0 0 es body
body_is es body is =
    let lt = is.0.counted in
    record {
      opens = some_opens es is.0.some;
      suits = all_suit es;
      agrees = agrees_from (2147483648 + length es % 65536) (length es) (omega arith) (omega arith) (omega (arith, lt));
      fits = fits_are 0 es is.0.fields;
      spelled = is.1 ∙ sym (bytes_are es lt);
    }

pub is_body : (es : List NodeEntry) (body : List ℕ) → IsBody node_form 0 0 es body → IsNode es body
is_body es body is =
    let reported = agreed (2147483648 + length es % 65536) (length es) is.agrees in
    let lt : length es < 2 ^ 16 = omega (arith, reported.1) in
    (record { some = opens_some es is.opens; counted = lt; fields = are_fits 0 es is.fits }, is.spelled ∙ bytes_are es lt)

pub foreign_is : (body : List ℕ) → IsForeign node_form body → IsForeignNode body
foreign_is body f =
    let reported = agreed f.0 (length f.1) f.3 in
    (f.0, concat f.1, reported.0, f.2, omega (arith, fixed_length 20 f.1 f.4, reported.1), f.5)

pub is_foreign : (body : List ℕ) → IsForeignNode body → IsForeign node_form body
is_foreign body f =
    let parts = fixed_parts 20 (f.0 % 65536) f.1 (omega (arith, f.4)) in
    (f.0, parts.0, f.3, agrees_from f.0 (length parts.0) f.2 f.3 (sym parts.2), parts.1, f.5 ∙ ap (λ t. le_bytes 4 f.0 ++ t) parts.3)

-- a body is made of one list of entries
pub one_node_body : (es ds : List NodeEntry) → AllByRecursion FitsNode es → AllByRecursion FitsNode ds → node_body es ≡ node_body ds → es ≡ ds
one_node_body es ds fe fd same =
    one_spelled node_form 0 es ds (fits_are 0 es fe) (fits_are 0 ds fd) (spelled_is 0 es ∙ ap (drop 4) same ∙ sym (spelled_is 0 ds))

-- a body has its word and twenty bytes an entry
entries-length : (es : List NodeEntry) → length (flat_map node_entry es) ≡ 20 * length es
entries-length [] = refl
entries-length (e ∷ es) = omega (arith, entries-length es)

pub body-length : (es : List NodeEntry) → length (node_body es) ≡ 4 + 20 * length es
body-length es = omega (arith, entries-length es)
