-- Two decimal digits, as they are printed.
use Rattle.std.proofs.Common.{◌≡◌, ℕ, ◌+◌, ◌-◌, ◌/◌, ◌%◌, ◌^◌, ◌<◌, ◌≤◌, false, [], ◌∷◌, ◌++◌, ap, ◌∙◌, refl, ⊎_elim, arith}
use Rattle.std.proofs.lemmas.Bool.{cases_lt}
use Rattle.std.specs.Fmt.{decimal, padded_integral, format_spec, char_count}
use Rattle.std.proofs.lemmas.Fmt.{decimal_digit, decimal_step}
use Rattle.r10_text.specs.Civil.{two_digits}

decimal_two : (n : ℕ) → 10 ≤ n → n < 100 → decimal n ≡ two_digits n
decimal_two n low high =
    let front : decimal (n / 10) ≡ (48 + n / 10) ∷ [] = decimal_digit (n / 10) (omega arith) in
    decimal_step n low (omega arith) ∙ ap (λ t. t ++ ((48 + n % 10) ∷ [])) front

-- what `{:02}` writes of a number below 100
pub decimal_pair : (n : ℕ) → n < 100 → padded_integral (format_spec 32 0 4 2 (2 ^ 64 - 1)) false [] (decimal n) ≡ two_digits n
unfolding padded_integral char_count
decimal_pair n small = ⊎_elim
    (λ one. let high : n / 10 ≡ 0 = omega arith in let low : n % 10 ≡ n = omega arith in rw (decimal_digit n one, high, low) refl)
    (λ two. rw (decimal_two n two small) refl)
    (cases_lt n 10)
