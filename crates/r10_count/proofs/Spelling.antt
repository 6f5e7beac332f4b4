-- Bytes are read as the entries that the writer spells with them, and as no others.
use Rattle.std.proofs.Common.{◌≡◌, ℕ, ◌<◌, List, [], ◌∷◌, ◌++◌, length, sym, ap, ◌∙◌, arith, append_assoc, length-append}
use Rattle.std.proofs.lemmas.List.{append-nil}
use Rattle.r10_count.specs.Form.{Form, IsEntryBytes, IsSpelled, spelled_all}
use Rattle.r10_count.proofs.BodyParts.{first_is, entry_some}

-- the entries so far, and those that the rest is, are those of all bytes
pub record ReadSoFar {E : Type 0} (form : Form E) (before : ℕ) (bytes : List ℕ) (entries : List E) (count : ℕ) (rest : List ℕ) : Type 0 where
  pub some : (tail : List E) → IsSpelled form count tail rest → IsSpelled form before (entries ++ tail) bytes
  pub only : (all : List E) → IsSpelled form before all bytes → (tail : List E) × (all ≡ entries ++ tail) × IsSpelled form count tail rest

pub behind_first : {E : Type 0} (form : Form E) (count : ℕ) (first after : List ℕ) (e : E) (entries all tail : List E)
    → IsEntryBytes form.front form.reported first → ((d : E) → form.Fits count d → first ≡ form.spelled count d → e ≡ d)
    → all ≡ entries ++ tail → IsSpelled form count tail (first ++ after)
    → (left : List E) × (all ≡ (entries ++ e ∷ []) ++ left) × IsSpelled form (form.count e) left after
behind_first form count first after e entries all [] h one q s = absurd (omega (arith, entry_some form first h, length-append first after, ap length s.1))
behind_first form count first after e entries all (d ∷ ds) h one q s =
    let same = first_is form.front form.reported first after (form.spelled count d) (spelled_all form (form.count d) ds) h (form.tells count d s.0.0) s.1 in
    let is : e ≡ d = one d s.0.0 same.0 in
    (ds, q ∙ rw is (sym (append_assoc entries (d ∷ []) ds)), rw is (s.0.1, same.1))

pub read_more : {E : Type 0} (form : Form E) (before : ℕ) (bytes : List ℕ) (entries : List E) (count : ℕ) (rest first after : List ℕ) (e : E)
    → IsEntryBytes form.front form.reported first → rest ≡ first ++ after → form.Fits count e → first ≡ form.spelled count e
    → ((d : E) → form.Fits count d → first ≡ form.spelled count d → e ≡ d)
    → ReadSoFar form before bytes entries count rest → ReadSoFar form before bytes (entries ++ e ∷ []) (form.count e) after
read_more form before bytes entries count rest first after e h q fits is one so_far = record {
  some = λ tail s.
      let whole : IsSpelled form before (entries ++ (e ∷ tail)) bytes = so_far.some (e ∷ tail) ((fits, s.0), q ∙ ap (λ t. t ++ after) is ∙ ap (λ t. form.spelled count e ++ t) s.1) in
      rw (append_assoc entries (e ∷ []) tail) whole;
  only = λ all s.
      let left = so_far.only all s in
      behind_first form count first after e entries all left.0 h one left.1 (left.2.0, sym q ∙ left.2.1);
}

-- at the end no entry is left
none_left : {E : Type 0} (form : Form E) (count : ℕ) (rest : List ℕ) (entries all tail : List E) → rest ≡ [] → IsSpelled form count tail rest → all ≡ entries ++ tail → entries ≡ all
none_left form count rest entries all [] e s q = sym (q ∙ append-nil entries)
none_left form count rest entries all (d ∷ ds) e s q =
    absurd (omega (arith, entry_some form (form.spelled count d) (form.tells count d s.0.0), length-append (form.spelled count d) (spelled_all form (form.count d) ds), ap length s.1, ap length e))

pub read_all : {E : Type 0} (form : Form E) (before : ℕ) (bytes : List ℕ) (entries : List E) (count : ℕ) (rest : List ℕ) → rest ≡ [] → ReadSoFar form before bytes entries count rest → IsSpelled form before entries bytes
read_all form before bytes entries count rest e so_far = rw (← append-nil entries) (so_far.some [] (tt, e))

pub read_only : {E : Type 0} (form : Form E) (before : ℕ) (bytes : List ℕ) (entries : List E) (count : ℕ) (rest : List ℕ) → rest ≡ [] → ReadSoFar form before bytes entries count rest
    → (all : List E) → IsSpelled form before all bytes → entries ≡ all
read_only form before bytes entries count rest e so_far all s = let left = so_far.only all s in none_left form count rest entries all left.0 e left.2 left.1

-- bytes that begin with no entry of the writer's are none
stuck : {E : Type 0} (form : Form E) (count : ℕ) (rest : List ℕ) (tail : List E) → 0 < length rest
    → ((d : E) (after : List ℕ) → form.Fits count d → rest ≡ form.spelled count d ++ after → ⊥) → IsSpelled form count tail rest → ⊥
stuck form count rest [] lt none s = omega (arith, ap length s.1)
stuck form count rest (d ∷ ds) lt none s = none d (spelled_all form (form.count d) ds) s.0.0 s.1

pub read_stuck : {E : Type 0} (form : Form E) (before : ℕ) (bytes : List ℕ) (entries : List E) (count : ℕ) (rest : List ℕ) → 0 < length rest → ReadSoFar form before bytes entries count rest
    → ((entry after : List ℕ) → IsEntryBytes form.front form.reported entry → rest ≡ entry ++ after → ⊥) → (all : List E) → IsSpelled form before all bytes → ⊥
read_stuck form before bytes entries count rest lt so_far none all s =
    let left = so_far.only all s in
    stuck form count rest left.0 lt (λ d after fits q. none (form.spelled count d) after (form.tells count d fits) q) left.2

pub read_unspelled : {E : Type 0} (form : Form E) (before : ℕ) (bytes : List ℕ) (entries : List E) (count : ℕ) (rest first after : List ℕ) → ReadSoFar form before bytes entries count rest
    → IsEntryBytes form.front form.reported first → rest ≡ first ++ after → ((d : E) → form.Fits count d → first ≡ form.spelled count d → ⊥) → (all : List E) → IsSpelled form before all bytes → ⊥
read_unspelled form before bytes entries count rest first after so_far h q none all s =
    let left = so_far.only all s in
    stuck form count rest left.0 (omega (arith, entry_some form first h, length-append first after, ap length q))
    (λ d behind fits r. none d fits (first_is form.front form.reported first after (form.spelled count d) behind h (form.tells count d fits) (sym q ∙ r)).0) left.2
