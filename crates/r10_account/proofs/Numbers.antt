-- Numbers that stay at the greatest of 64 bits.
use Rattle.std.proofs.Common.{◌≡◌, ◌≤◌, ℕ, ◌+◌, min, arith}

pub same_number : (was now most : ℕ) → was ≤ most → now ≡ was → now ≡ min (was + 0) most
same_number was now most small is = omega (arith, small, is)

pub small_again : (n most : ℕ) → min n most ≤ most
small_again n most = omega arith

pub twice : (n k most : ℕ) → min (min n most + k) most ≡ min (n + k) most
twice n k most = omega arith

pub so_many : (n k m most : ℕ) → min (n + k + m) most ≡ min (min (n + m) most + k) most
so_many n k m most = omega arith

pub none_more : (n k m most : ℕ) → k ≡ 0 → min (n + k + m) most ≡ min (n + m) most
none_more n k m most none = omega (arith, none)

pub at_first : (n most : ℕ) → n ≤ most → n ≡ min (0 + n) most
at_first n most small = omega (arith, small)
