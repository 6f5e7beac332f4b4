-- How many entries instalments have, one after the other.
use Rattle.std.proofs.Common.{◌≡◌, ℕ, ◌+◌, ◌-◌, ◌<◌, ◌^◌, min, List, [], ◌∷◌, ◌++◌, length, take, get_or, ap, ◌∙◌, arith}
use Rattle.std.proofs.lemmas.List.{take_more}
use Rattle.r10_session.specs.Counting.{entries_in, instalments_length}
use Rattle.r10_shared.specs.Recorder.{Instalment}

-- one instalment more
entries_more : (instalments : List Instalment) (i : Instalment) → instalments_length (instalments ++ i ∷ []) ≡ instalments_length instalments + length i.entries
entries_more [] i = omega arith
entries_more (x ∷ instalments) i = omega (arith, entries_more instalments i)

up_to : (a b c most : ℕ) → c ≡ a + b → min c most ≡ min (min a most + b) most
up_to a b c most is = omega (arith, is)

pub entries_at : (instalments : List Instalment) (k : ℕ) (other : Instalment) → k < length instalments → entries_in (take (k + 1) instalments) ≡ min (entries_in (take k instalments) + length (get_or instalments k other).entries) (2 ^ 64 - 1)
entries_at instalments k other inside =
    let more : instalments_length (take (k + 1) instalments) ≡ instalments_length (take k instalments) + length (get_or instalments k other).entries =
    ap (λ is. instalments_length is) (take_more instalments k other inside) ∙ entries_more (take k instalments) (get_or instalments k other) in
    up_to (instalments_length (take k instalments)) (length (get_or instalments k other).entries) (instalments_length (take (k + 1) instalments)) (2 ^ 64 - 1) more
