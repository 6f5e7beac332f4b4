-- Bytes fall apart into entries in one way.
use Rattle.std.proofs.Common.{◌≡◌, ℕ, Option, Some, ◌+◌, ◌<◌, ◌≤◌, List, [], ◌∷◌, ◌++◌, length, take, drop, sym, ap, ◌∙◌, arith, length-append}
use Rattle.std.proofs.lemmas.List.{take-append-le}
use Rattle.std.proofs.Math.Seq.{take-append_seam, drop-append_seam}
use Rattle.std.specs.List.{concat}
use Rattle.r10_count.specs.Form.{Form, IsEntryBytes, IsSplit}

-- the front tells how long the first entry is
pub first_is : (front : ℕ) (reported : List ℕ → Option ℕ) (c r d s : List ℕ) → IsEntryBytes front reported c → IsEntryBytes front reported d → c ++ r ≡ d ++ s → (c ≡ d) × (r ≡ s)
first_is front reported c r d s hc hd e =
    let ec : take front c ≡ take front (c ++ r) = sym (take-append-le front c r hc.0) in
    let ed : take front (d ++ s) ≡ take front d = take-append-le front d s hd.0 in
    let fronts : take front c ≡ take front d = ec ∙ ap (take front) e ∙ ed in
    let lengths : Some (length c) ≡ Some (length d) = sym hc.1 ∙ ap reported fronts ∙ hd.1 in
    let n : length c ≡ length d = cc in
    let tc : c ≡ take (length c) (c ++ r) = sym (take-append_seam c r) in
    let same : c ≡ d = tc ∙ rw (n, e) (take-append_seam d s) in
    let dc : r ≡ drop (length c) (c ++ r) = sym (drop-append_seam c r) in
    (same, dc ∙ rw (n, e) (drop-append_seam d s))

-- a count of entries so far: those of the rest are those of all but so many
pub record Counted {E : Type 0} (form : Form E) (bytes rest : List ℕ) (count : ℕ) : Type 0 where
  pub room : count + length rest ≤ length bytes
  pub some : (parts : List (List ℕ)) → IsSplit form parts rest → (all : List (List ℕ)) × IsSplit form all bytes × (length all ≡ count + length parts)
  pub only : (all : List (List ℕ)) → IsSplit form all bytes → (parts : List (List ℕ)) × IsSplit form parts rest × (length all ≡ count + length parts)

-- an entry has a byte
pub entry_some : {E : Type 0} (form : Form E) (entry : List ℕ) → IsEntryBytes form.front form.reported entry → 0 < length entry
entry_some form entry h = omega (arith, form.some, h.0)

one_less : {E : Type 0} (form : Form E) (first after parts_bytes : List ℕ) (n k : ℕ) (parts : List (List ℕ))
    → IsEntryBytes form.front form.reported first → n ≡ k + length parts → IsSplit form parts (first ++ after)
    → (ps : List (List ℕ)) × IsSplit form ps after × (n ≡ k + 1 + length ps)
one_less form first after parts_bytes n k [] h e s = absurd (omega (arith, entry_some form first h, length-append first after, ap length s.1))
one_less form first after parts_bytes n k (d ∷ ds) h e s =
    let same = first_is form.front form.reported first after d (concat ds) h s.0.0 s.1 in
    (ds, (s.0.1, same.1), omega arith)

pub counted_more : {E : Type 0} (form : Form E) (bytes rest first after : List ℕ) (count : ℕ)
    → IsEntryBytes form.front form.reported first → rest ≡ first ++ after → Counted form bytes rest count → Counted form bytes after (count + 1)
counted_more form bytes rest first after count h e so_far = record {
  room = omega (arith, entry_some form first h, length-append first after, ap length e, so_far.room);
  some = λ parts s.
      let whole = so_far.some (first ∷ parts) ((h, s.0), e ∙ ap (λ t. first ++ t) s.1) in
      (whole.0, whole.1, whole.2 ∙ omega arith);
  only = λ all s.
      let left = so_far.only all s in
      one_less form first after [] (length all) count left.0 h left.2 (left.1.0, sym e ∙ left.1.1);
}

none_left : {E : Type 0} (form : Form E) (rest : List ℕ) (parts : List (List ℕ)) (count n : ℕ) → rest ≡ [] → IsSplit form parts rest → n ≡ count + length parts → count ≡ n
none_left form rest [] count n e s h = omega arith
none_left form rest (d ∷ ds) count n e s h = absurd (omega (arith, entry_some form d s.0.0, length-append d (concat ds), ap length s.1, ap length e))

stuck : {E : Type 0} (form : Form E) (rest : List ℕ) → 0 < length rest → ((entry after : List ℕ) → IsEntryBytes form.front form.reported entry → rest ≡ entry ++ after → ⊥) → (parts : List (List ℕ)) → IsSplit form parts rest → ⊥
stuck form rest lt none [] s = omega (arith, ap length s.1)
stuck form rest lt none (d ∷ ds) s = none d (concat ds) s.0.0 s.1

-- at the end no entry is left
pub counted_all : {E : Type 0} (form : Form E) (bytes rest : List ℕ) (count : ℕ) → rest ≡ [] → Counted form bytes rest count → (parts : List (List ℕ)) × IsSplit form parts bytes × (length parts ≡ count)
counted_all form bytes rest count e so_far = let whole = so_far.some [] (tt, e) in (whole.0, whole.1, whole.2 ∙ omega arith)

pub counted_only : {E : Type 0} (form : Form E) (bytes rest : List ℕ) (count : ℕ) → rest ≡ [] → Counted form bytes rest count → (all : List (List ℕ)) → IsSplit form all bytes → count ≡ length all
counted_only form bytes rest count e so_far all s = let left = so_far.only all s in none_left form rest left.0 count (length all) e left.1 left.2

-- bytes that begin with no entry are none
pub counted_stuck : {E : Type 0} (form : Form E) (bytes rest : List ℕ) (count : ℕ) → 0 < length rest → Counted form bytes rest count
    → ((entry after : List ℕ) → IsEntryBytes form.front form.reported entry → rest ≡ entry ++ after → ⊥) → (all : List (List ℕ)) → IsSplit form all bytes → ⊥
counted_stuck form bytes rest count lt so_far none all s = let left = so_far.only all s in stuck form rest lt none left.0 left.1
