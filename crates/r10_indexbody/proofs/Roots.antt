-- The body of a root is a body of its form.
use Rattle.std.proofs.Common.{◌≡◌, ℕ, Bool, true, false, ◌⊎◌, inl, inr, ◌==◌, ◌&&◌, ◌||◌, ◌+◌, ◌*◌, ◌/◌, ◌%◌, ◌^◌, ◌<◌, ◌≤◌, List, [], ◌∷◌, ◌++◌, length, drop, nat_eq, refl, sym, ap, ◌∙◌, arith}
use Rattle.std.proofs.lemmas.Bool.{eq-eqb, eqb-true, and_from, and_parts}
use Rattle.std.specs.List.{AllByRecursion, concat, flat_map}
use Rattle.r10_count.specs.Bytes.{le_bytes}
use Rattle.r10_count.specs.Form.{IsBody, IsForeign, FitsAll, OpensAll, SuitsAll, spelled_all, body_bytes}
use Rattle.r10_count.proofs.Bodies.{one_spelled}
use Rattle.r10_count.proofs.Fixed.{fixed_length, fixed_parts}
use Rattle.r10_count.proofs.Plain.{plain_spelled, plain_fits, plain_all}
use Rattle.r10_indexbody.specs.Index.{FitsRoot, FitsRootBody, IsRoot, IsForeignRoot, root_body, root_entry}
use Rattle.r10_indexbody.specs.Entry.{root_form}
use Rattle.r10_indexbody.specs.declared.entry.RootEntry.{RootEntry}

pub spelled_is : (before : ℕ) (es : List RootEntry) → spelled_all root_form before es ≡ flat_map root_entry es
spelled_is = plain_spelled root_form root_entry (λ before e. refl)

pub fits_are : (before : ℕ) (es : List RootEntry) → AllByRecursion FitsRoot es → FitsAll root_form before es
fits_are = plain_fits root_form FitsRoot (λ before e h. h)

pub are_fits : (before : ℕ) (es : List RootEntry) → FitsAll root_form before es → AllByRecursion FitsRoot es
are_fits = plain_all root_form FitsRoot (λ before e h. h)

-- a number of 16 bits is written whole
pub bytes_are : (es : List RootEntry) → length es < 2 ^ 16 → body_bytes root_form 0 0 es ≡ root_body es
bytes_are es lt = let whole : length es % 65536 ≡ length es = omega arith in rw (whole, spelled_is 0 es) refl

some_opens : (es : List RootEntry) → 0 < length es → OpensAll root_form 0 es
some_opens [] lt = omega (arith, lt)
some_opens (e ∷ es) lt = refl

opens_some : (es : List RootEntry) → OpensAll root_form 0 es → 0 < length es
opens_some [] h = absurd h
opens_some (e ∷ es) h = omega arith

all_suit : (es : List RootEntry) → SuitsAll root_form 0 es
all_suit [] = tt
all_suit (e ∷ es) = (refl, all_suit es)

either : (a b : Bool) → a || b ≡ true → (a ≡ true) ⊎ (b ≡ true)
either true b is = inl refl
either false b is = inr is

or_left : (a b : Bool) → a ≡ true → a || b ≡ true
or_left a b is = rw is refl

or_right : (a b : Bool) → b ≡ true → a || b ≡ true
or_right true b is = refl
or_right false b is = is

-- so many entries go with a word exactly where it is a root's and tells them, or one less
counts : (word n : ℕ) → (n ≡ word % 65536) ⊎ (n ≡ word % 65536 + 1) → word % 65536 == n || word % 65536 + 1 == n ≡ true
counts word n (inl is) = or_left (word % 65536 == n) (word % 65536 + 1 == n) (eq-eqb (word % 65536) n (sym is))
counts word n (inr is) = or_right (word % 65536 == n) (word % 65536 + 1 == n) (eq-eqb (word % 65536 + 1) n (sym is))

agrees_from : (word n : ℕ) → word < 2147483648 → (n ≡ word % 65536) ⊎ (n ≡ word % 65536 + 1) → word / 2147483648 == 0 && (word % 65536 == n || word % 65536 + 1 == n) ≡ true
agrees_from word n low reported =
    and_from (word / 2147483648 == 0) (word % 65536 == n || word % 65536 + 1 == n) (eq-eqb (word / 2147483648) 0 (omega (arith, low))) (counts word n reported)

told_by : (word n : ℕ) → (word % 65536 == n ≡ true) ⊎ (word % 65536 + 1 == n ≡ true) → (n ≡ word % 65536) ⊎ (n ≡ word % 65536 + 1)
told_by word n (inl is) = inl (sym (eqb-true (word % 65536) n is))
told_by word n (inr is) = inr (sym (eqb-true (word % 65536 + 1) n is))

agreed : (word n : ℕ) → word / 2147483648 == 0 && (word % 65536 == n || word % 65536 + 1 == n) ≡ true → (word < 2147483648) × ((n ≡ word % 65536) ⊎ (n ≡ word % 65536 + 1))
agreed word n is =
    let parts = and_parts (word / 2147483648 == 0) (word % 65536 == n || word % 65536 + 1 == n) is in
    (omega (arith, eqb-true (word / 2147483648) 0 parts.0), told_by word n (either (word % 65536 == n) (word % 65536 + 1 == n) parts.1))

-- the writer's word tells as many as there are
whole : (n : ℕ) → (n ≡ n % 65536 % 65536) ⊎ (n ≡ n % 65536 % 65536 + 1) → n < 65536
whole n (inl is) = omega (arith, is)
whole n (inr is) = omega (arith, is)

pub body_is : (es : List RootEntry) (body : List ℕ) → IsRoot es body → IsBody root_form 0 0 es body
body_is es body is =
    let lt = is.0.counted in
    record {
      opens = some_opens es is.0.some;
      suits = all_suit es;
      agrees = agrees_from (length es % 65536) (length es) (omega arith) (inl (omega (arith, lt)));
      fits = fits_are 0 es is.0.fields;
      spelled = is.1 ∙ sym (bytes_are es lt);
    }

pub is_body : (es : List RootEntry) (body : List ℕ) → IsBody root_form 0 0 es body → IsRoot es body
is_body es body is =
    let reported = agreed (length es % 65536) (length es) is.agrees in
    let lt : length es < 2 ^ 16 = whole (length es) reported.1 in
    (record { some = opens_some es is.opens; counted = lt; fields = are_fits 0 es is.fits }, is.spelled ∙ bytes_are es lt)

pub foreign_is : (body : List ℕ) → IsForeign root_form body → IsForeignRoot body
foreign_is body f =
    let reported = agreed f.0 (length f.1) f.3 in
    (f.0, concat f.1, length f.1, reported.0, reported.1, omega (arith, fixed_length 16 f.1 f.4), f.5)

pub is_foreign : (body : List ℕ) → IsForeignRoot body → IsForeign root_form body
is_foreign body f =
    let parts = fixed_parts 16 f.2 f.1 (omega (arith, f.5)) in
    (f.0, parts.0, omega (arith, f.3), rw parts.2 (agrees_from f.0 f.2 f.3 f.4), parts.1, f.6 ∙ ap (λ t. le_bytes 4 f.0 ++ t) parts.3)

-- a body is made of one list of entries
pub one_root_body : (es ds : List RootEntry) → AllByRecursion FitsRoot es → AllByRecursion FitsRoot ds → root_body es ≡ root_body ds → es ≡ ds
one_root_body es ds fe fd same =
    one_spelled root_form 0 es ds (fits_are 0 es fe) (fits_are 0 ds fd) (spelled_is 0 es ∙ ap (drop 4) same ∙ sym (spelled_is 0 ds))

-- a body has its word and sixteen bytes an entry
entries-length : (es : List RootEntry) → length (flat_map root_entry es) ≡ 16 * length es
entries-length [] = refl
entries-length (e ∷ es) = omega (arith, entries-length es)

pub body-length : (es : List RootEntry) → length (root_body es) ≡ 4 + 16 * length es
body-length es = omega (arith, entries-length es)
