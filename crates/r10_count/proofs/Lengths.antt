-- How long entries are that stand end to end, where each tells its own size.
use Rattle.std.proofs.Common.{◌≡◌, ℕ, zero, suc, get_or, ◌+◌, ◌<◌, List, [], ◌∷◌, length, drop, ap, ◌∙◌, arith, length-append}
use Rattle.std.specs.List.{flat_map, fold}

-- the entries that are left are the next one and those after it
pub next_long : {E : Type 0} (code : E → List ℕ) (size : E → ℕ) → ((e : E) → length (code e) ≡ size e) → (es : List E) (i : ℕ) (e : E) → i < length es → e ≡ get_or es i e
    → length (flat_map code (drop i es)) ≡ size e + length (flat_map code (drop (i + 1) es))
next_long code size each [] i e lt is = absurd (omega arith)
next_long code size each (d ∷ ds) zero e lt is = omega (arith, length-append (code d) (flat_map code ds), each d, ap size is)
next_long code size each (d ∷ ds) (suc i) e lt is = let next : suc i + 1 ≡ suc (i + 1) = omega arith in rw next (next_long code size each ds i e (omega arith) is)

-- all are as long as their sizes together
pub sizes_from : {E : Type 0} (code : E → List ℕ) (size : E → ℕ) → ((e : E) → length (code e) ≡ size e) → (n : ℕ) (es : List E) → fold (λ a e. a + size e) n es ≡ n + length (flat_map code es)
sizes_from code size each n [] = omega arith
sizes_from code size each n (e ∷ es) = sizes_from code size each (n + size e) es ∙ omega (arith, length-append (code e) (flat_map code es), each e)
