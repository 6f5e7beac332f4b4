-- A strict body is a foreign one, and each body has one reading.
use Rattle.std.proofs.Common.{◌≡◌, ℕ, ◌^◌, ◌<◌, true, false, suc, List, [], ◌∷◌, ◌++◌, length, refl, sym, ap, ◌∙◌, arith, length-append}
use Rattle.std.specs.List.{concat}
use Rattle.r10_count.specs.Bytes.{le_bytes}
use Rattle.r10_count.proofs.Fronts.{same_u32}
use Rattle.r10_count.specs.Form.{Form, IsSplit, IsSpelled, IsBody, IsForeign, FitsAll, OpensAll, SuitsAll, spelled_all}
use Rattle.r10_count.proofs.BodyParts.{entry_some, first_is}

pub split_of : {E : Type 0} (form : Form E) (before : ℕ) (es : List E) → FitsAll form before es → (parts : List (List ℕ)) × IsSplit form parts (spelled_all form before es) × (length parts ≡ length es)
split_of form before [] fits = ([], (tt, refl), refl)
split_of form before (e ∷ es) fits =
    let left = split_of form (form.count e) es fits.1 in
    (form.spelled before e ∷ left.0, ((form.tells before e fits.0, left.1.0), ap (λ t. form.spelled before e ++ t) left.1.1), ap suc left.2)

-- entries have a byte
spelled_some : {E : Type 0} (form : Form E) (before : ℕ) (e : E) (es : List E) → FitsAll form before (e ∷ es) → 0 < length (spelled_all form before (e ∷ es))
spelled_some form before e es fits =
    omega (arith, entry_some form (form.spelled before e) (form.tells before e fits.0), length-append (form.spelled before e) (spelled_all form (form.count e) es))

-- bytes are the spelling of one list of entries
pub one_spelled : {E : Type 0} (form : Form E) (before : ℕ) (es ds : List E) → FitsAll form before es → FitsAll form before ds → spelled_all form before es ≡ spelled_all form before ds → es ≡ ds
one_spelled form before [] [] fe fd q = refl
one_spelled form before [] (d ∷ ds) fe fd q = absurd (omega (arith, spelled_some form before d ds fd, ap length q))
one_spelled form before (e ∷ es) [] fe fd q = absurd (omega (arith, spelled_some form before e es fe, ap length q))
one_spelled form before (e ∷ es) (d ∷ ds) fe fd q =
    let same = first_is form.front form.reported (form.spelled before e) (spelled_all form (form.count e) es) (form.spelled before d) (spelled_all form (form.count d) ds)
    (form.tells before e fe.0) (form.tells before d fd.0) q in
    let is : e ≡ d = form.one before e d fe.0 fd.0 same.0 in
    let fits : FitsAll form (form.count e) ds = rw is fd.1 in
    let left : es ≡ ds = one_spelled form (form.count e) es ds fe.1 fits (same.1 ∙ ap (λ t. spelled_all form (form.count t) ds) (sym is)) in
    rw (is, left) refl

-- a body of the writer's is one that another writer may have made
pub body_is_foreign : {E : Type 0} (form : Form E) (setting counter : ℕ) (es : List E) (body : List ℕ) → IsBody form setting counter es body → IsForeign form body
body_is_foreign form setting counter es body is =
    let left = split_of form counter es is.fits in (
      form.word setting (length es),
      left.0,
      form.worded setting (length es),
      rw left.2 is.agrees,
      left.1.0,
      is.spelled ∙ ap (λ t. le_bytes 4 (form.word setting (length es)) ++ t) left.1.1,
    )

-- a body of the writer's begins with its word
pub body_front : {E : Type 0} (form : Form E) (setting counter word : ℕ) (rest body : List ℕ) → word < 2 ^ 32 → body ≡ le_bytes 4 word ++ rest → (es : List E) → IsBody form setting counter es body
    → (word ≡ form.word setting (length es)) × IsSpelled form counter es rest
body_front form setting counter word rest body lt e es is =
    let front = same_u32 word (form.word setting (length es)) rest (spelled_all form counter es) lt (form.worded setting (length es)) (sym e ∙ is.spelled) in
    (front.0, (is.fits, front.1))

-- a foreign body begins with its word
pub foreign_split : {E : Type 0} (form : Form E) (word : ℕ) (rest body : List ℕ) → word < 2 ^ 32 → body ≡ le_bytes 4 word ++ rest → IsForeign form body
    → (parts : List (List ℕ)) × IsSplit form parts rest × (form.agrees word (length parts) ≡ true)
foreign_split form word rest body lt e is =
    let front = same_u32 word is.0 rest (concat is.1) lt is.2 (sym e ∙ is.5) in
    (is.1, (is.4, front.1), rw front.0 is.3)

-- its entries are counted
pub foreign_counted : {E : Type 0} (form : Form E) (word n : ℕ) (rest body : List ℕ) → word < 2 ^ 32 → body ≡ le_bytes 4 word ++ rest → ((parts : List (List ℕ)) × IsSplit form parts rest × (length parts ≡ n))
    → form.agrees word n ≡ true → IsForeign form body
foreign_counted form word n rest body lt e split agrees =
    (word, split.0, lt, rw split.2 agrees, split.1.0, e ∙ ap (λ t. le_bytes 4 word ++ t) split.1.1)

-- and its word goes with their number
pub not_agreeing : {E : Type 0} (form : Form E) (word n : ℕ) (rest body : List ℕ) → word < 2 ^ 32 → body ≡ le_bytes 4 word ++ rest → ((parts : List (List ℕ)) → IsSplit form parts rest → n ≡ length parts)
    → form.agrees word n ≡ false → IsForeign form body → ⊥
not_agreeing form word n rest body lt e only wrong is =
    let left = foreign_split form word rest body lt e is in
    let right : form.agrees word n ≡ true = rw (only left.0 left.1) left.2 in
    absurd cc

-- as many entries are spelled as parts were counted
pub same_number : {E : Type 0} (form : Form E) (before : ℕ) (rest : List ℕ) (n : ℕ) → ((parts : List (List ℕ)) → IsSplit form parts rest → n ≡ length parts) → (es : List E) → IsSpelled form before es rest → n ≡ length es
same_number form before rest n only es s =
    let left = split_of form before es s.0 in
    only left.0 (left.1.0, s.1 ∙ left.1.1) ∙ left.2

pub body_of : {E : Type 0} (form : Form E) (setting counter word n : ℕ) (rest body : List ℕ) (es : List E) → body ≡ le_bytes 4 word ++ rest → n ≡ length es → word ≡ form.word setting n → form.agrees word n ≡ true
    → IsSpelled form counter es rest → OpensAll form counter es → SuitsAll form setting es → IsBody form setting counter es body
body_of form setting counter word n rest body es e m w agrees s opens suits =
    record { opens = opens; suits = suits; agrees = rw (← m, ← w) agrees; fits = s.0; spelled = rw (← m, ← w) (e ∙ ap (λ t. le_bytes 4 word ++ t) s.1) }

-- with another word it is not the writer's
pub not_own : {E : Type 0} (form : Form E) (setting counter word n : ℕ) (rest body : List ℕ) → word < 2 ^ 32 → body ≡ le_bytes 4 word ++ rest → ((parts : List (List ℕ)) → IsSplit form parts rest → n ≡ length parts)
    → (word ≡ form.word setting n → ⊥) → (es : List E) → IsBody form setting counter es body → ⊥
not_own form setting counter word n rest body lt e only other es is =
    let front = body_front form setting counter word rest body lt e es is in
    let m : n ≡ length es = same_number form counter rest n only es front.1 in
    other (rw m front.0)
