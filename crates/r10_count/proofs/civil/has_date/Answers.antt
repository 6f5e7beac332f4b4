use Rattle.std.proofs.Common.{◌≡◌, ◌≤◌, ◌<◌, ◌∙◌, sym, rules, IsTrue, Bool, true, false, refl}
use Rattle.r10_count.proofs.Calendar.{is_date-IsDate, IsDate-is_date}
use Rattle.r10_count.proofs.civil.has_date.Goals as goal

-- two tests that pass for each other
same_test : (a b : Bool) → (IsTrue a → IsTrue b) → (IsTrue b → IsTrue a) → a ≡ b
same_test true true there back = refl
same_test true false there back = sym (there refl)
same_test false true there back = back refl
same_test false false there back = refl

pub returns-then-parts-lt4000 : goal.returns-then-parts-lt4000
returns-then-parts-lt4000 c =
    let low : 1 ≤ c.args.parts.now.year = search rules in
    let high : c.args.parts.now.year < 4000 = search rules in
    same_test _ _ (λ some. is_date-IsDate c.args.parts.now low high (c.date_of.ensures.some.0 (sym c.is_some.ensures ∙ some)))
    (λ date. c.is_some.ensures ∙ c.date_of.ensures.some.1 (IsDate-is_date c.args.parts.now date))
