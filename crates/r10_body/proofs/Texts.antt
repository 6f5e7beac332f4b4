-- Bytes and their padding at the front of bytes.
use Rattle.std.proofs.Common.{◌≡◌, ℕ, ◌+◌, ◌%◌, List, ◌++◌, length, replicate, sym, ap, ◌∙◌, arith, append-nil, length-append}
use Rattle.r10_count.specs.Padding.{padded}
use Rattle.r10_count.specs.Texts.{padded-size}

-- after an even number of bytes nothing is added
pub even_behind : (bytes text behind : List ℕ) (size : ℕ) → bytes ≡ text ++ behind → length text ≡ size → size % 2 ≡ 0 → bytes ≡ padded text ++ behind
even_behind bytes text behind size e n even =
    let none : length text % 2 ≡ 0 = ap (λ k. k % 2) n ∙ even in
    let plain : padded text ≡ text = ap (λ k. text ++ replicate k 0) none ∙ append-nil text in
    e ∙ ap (λ t. t ++ behind) (sym plain)

-- and the bytes are as many as both
pub padded_long : (bytes text rest : List ℕ) (size : ℕ) → length text ≡ size → bytes ≡ padded text ++ rest → length bytes ≡ size + size % 2 + length rest
padded_long bytes text rest size n is =
    let long : length bytes ≡ length (padded text) + length rest = ap (λ (t : List ℕ). length t) is ∙ length-append (padded text) rest in
    let odd : length text % 2 ≡ size % 2 = ap (λ k. k % 2) n in
    omega (arith, long, padded-size text, odd, n)
