use Rattle.std.proofs.Common.{◌≡◌, ◌∙◌, List, [], ◌∷◌, ℕ, true, false, sym, subst, ap, rules, eqb, eq-eqb, refl}
use Rattle.std.specs.Cmp.Lexicographic.{pointwise}
use Rattle.r10_count.specs.Civil.{IsCivil}
use Rattle.r10_count.specs.declared.civil.Parts.{Parts as PartsValue}
use Rattle.r10_count.specs.declared.reading.Reading.TheVariants.{Strict}
use Rattle.r10_timebody.specs.Time.{IsTime, time_body, told_parts}
use Rattle.r10_timebody.proofs.Times.{told_parts-IsTime}
use Rattle.r10_timebody.proofs.body.TimeBody.decode.Goals as goal

-- the digits tell no civil time
no_civil : (c : goal.In_default-civil_in) → (civil : PartsValue) → IsTime civil c.args.body.now → ⊥
no_civil c civil h =
    let whole : c.in-Ok.body ≡ c.args.body.now = c.in-Ok.ensures.1.same in
    let reported : told_parts c.in-Ok.body ≡ civil = ap told_parts whole ∙ told_parts-IsTime civil c.args.body.now h in
    c.in_default-civil_in.ensures (subst (λ p. IsCivil p) (sym reported) h.0)

-- the bytes are not those of the civil time that the digits tell
same_bytes : (bytes : List ℕ) → pointwise eqb bytes bytes ≡ true
same_bytes [] = refl
same_bytes (b ∷ bytes) = rw (eq-eqb b b refl) (same_bytes bytes)

other_bytes : (c : goal.Else-eq) → (civil : PartsValue) → IsTime civil c.args.body.now → ⊥
other_bytes c civil h =
    let whole : c.in-Ok.body ≡ c.args.body.now = c.in-Ok.ensures.1.same in
    let reported : c.in-Some.civil ≡ civil = c.in-Some.ensures.1 ∙ ap told_parts whole ∙ told_parts-IsTime civil c.args.body.now h in
    let bytes : c.encode.result ≡ c.in-Ok.body = c.encode.ensures ∙ ap time_body reported ∙ sym h.1 ∙ sym whole in
    let both : false ≡ true = c.if-eq.ensures ∙ ap (λ t. pointwise eqb t c.in-Ok.body) bytes ∙ same_bytes c.in-Ok.body in
    cc

pub returns-in_default-civil_in-clause-found : goal.returns-in_default-civil_in-clause-found
returns-in_default-civil_in-clause-found c = (search rules, no_civil c)

pub returns-in_default-civil_in-clause-only : goal.returns-in_default-civil_in-clause-only
returns-in_default-civil_in-clause-only c = λ civil h. absurd (no_civil c civil h)

pub returns-then-eq-clause-only : goal.returns-then-eq-clause-only
returns-then-eq-clause-only c = λ civil h.
    let whole : c.in-Ok.body ≡ c.args.body.now = c.in-Ok.ensures.1.same in
    ap (λ p. Strict p) (c.in-Some.ensures.1 ∙ ap told_parts whole ∙ told_parts-IsTime civil c.args.body.now h)

pub returns-else-eq-clause-found : goal.returns-else-eq-clause-found
returns-else-eq-clause-found c = (search rules, other_bytes c)

pub returns-else-eq-clause-only : goal.returns-else-eq-clause-only
returns-else-eq-clause-only c = λ civil h. absurd (other_bytes c civil h)
