-- Parts joined end to end.
use Rattle.std.proofs.Common.{◌≡◌, ℕ, ◌<◌, ◌≤◌, zero, suc, List, [], ◌∷◌, length, get_or, drop, map, ap, arith, length-append}
use Rattle.std.specs.Borrow.{Bor}
use Rattle.std.specs.List.{concat}
use Rattle.r10_count.specs.Form.{Form, spelled_all}

abbrev pub joined : List (Bor (List ℕ)) → List ℕ
joined parts = concat (map (λ part. part.now) parts)

-- one of the parts that are left is no longer than all of them
pub part_within : (parts : List (Bor (List ℕ))) (i : ℕ) (d : Bor (List ℕ)) → i < length parts → length (get_or parts i d).now ≤ length (joined (drop i parts))
part_within [] i d lt = absurd (omega arith)
part_within (p ∷ ps) zero d lt = omega (arith, length-append p.now (joined ps))
part_within (p ∷ ps) (suc i) d lt = part_within ps i d (omega arith)

-- the first of the entries that are left is no longer than all of them
pub first_within : {E : Type 0} (form : Form E) (count : ℕ) (es : List E) (i : ℕ) (e : E) → i < length es → e ≡ get_or es i e → length (form.spelled count e) ≤ length (spelled_all form count (drop i es))
first_within form count [] i e lt is = absurd (omega arith)
first_within form count (d ∷ ds) zero e lt is =
    omega (arith, ap (λ t. length (form.spelled count t)) is, length-append (form.spelled count d) (spelled_all form (form.count d) ds))
first_within form count (d ∷ ds) (suc i) e lt is = first_within form count ds i e (omega arith) is
