-- Zeros after bytes add nothing to their checksums.
use Rattle.std.proofs.Common.{◌≡◌, ℕ, zero, suc, ◌+◌, ◌-◌, ◌*◌, ◌/◌, ◌%◌, ◌^◌, ◌<◌, ◌==◌, List, [], ◌∷◌, ◌++◌, length, take, drop, replicate, refl, sym, ap, ◌∙◌, arith}
use Rattle.std.proofs.lemmas.List.{drop-take}
use Rattle.std.proofs.lemmas.List.Sums.{sum_by-cons}
use Rattle.std.specs.Prelude.{sum, slice_range, if◌then◌else◌}
use Rattle.r10_count.specs.Bytes.{le_bytes}
use Rattle.r10_packet.specs.Sums.{words16, words32, data_checksum}
use Rattle.r10_packet.specs.Packet.{least_filler}

first : (x : ℕ) (xs : List ℕ) → sum (x ∷ xs) ≡ x + sum xs
first x xs = sum_by-cons (λ w. w) x xs

alone : (x : ℕ) → sum (x ∷ []) ≡ x
alone x = omega arith

behind : (x : ℕ) (xs ys : List ℕ) → sum xs ≡ sum ys → sum (x ∷ xs) ≡ sum (x ∷ ys)
behind x xs ys same = first x xs ∙ ap (λ n. x + n) same ∙ sym (first x ys)

-- a word that zeros fill
whole : (x y : ℕ) (xs : List ℕ) → x ≡ y → sum xs ≡ 0 → sum (x ∷ xs) ≡ sum (y ∷ [])
whole x y xs same none = omega (arith, first x xs, alone y, same, none)

zero_word : (x : ℕ) (xs : List ℕ) → x ≡ 0 → sum xs ≡ 0 → sum (x ∷ xs) ≡ 0
zero_word x xs same none = omega (arith, first x xs, same, none)

zeros8 : (k : ℕ) → sum (replicate k 0) ≡ 0
zeros8 zero = refl
zeros8 (suc k) = zero_word 0 (replicate k 0) refl (zeros8 k)

sum8 : (bytes : List ℕ) (k : ℕ) → sum (bytes ++ replicate k 0) ≡ sum bytes
sum8 [] k = zeros8 k
sum8 (a ∷ bytes) k = behind a (bytes ++ replicate k 0) bytes (sum8 bytes k)

zeros16 : (k : ℕ) → sum (words16 (replicate k 0)) ≡ 0
zeros16 zero = refl
zeros16 (suc zero) = refl
zeros16 (suc (suc k)) = zero_word (0 + 256 * 0) (words16 (replicate k 0)) refl (zeros16 k)

sum16 : (bytes : List ℕ) (k : ℕ) → sum (words16 (bytes ++ replicate k 0)) ≡ sum (words16 bytes)
sum16 [] k = zeros16 k
sum16 (a ∷ []) zero = refl
sum16 (a ∷ []) (suc k) = whole (a + 256 * 0) a (words16 (replicate k 0)) (omega arith) (zeros16 k)
sum16 (a ∷ b ∷ bytes) k = behind (a + 256 * b) (words16 (bytes ++ replicate k 0)) (words16 bytes) (sum16 bytes k)

zeros32 : (k : ℕ) → sum (words32 (replicate k 0)) ≡ 0
zeros32 zero = refl
zeros32 (suc zero) = refl
zeros32 (suc (suc zero)) = refl
zeros32 (suc (suc (suc zero))) = refl
zeros32 (suc (suc (suc (suc k)))) = zero_word (0 + 256 * 0 + 65536 * 0 + 16777216 * 0) (words32 (replicate k 0)) refl (zeros32 k)

sum32 : (bytes : List ℕ) (k : ℕ) → sum (words32 (bytes ++ replicate k 0)) ≡ sum (words32 bytes)
sum32 [] k = zeros32 k
sum32 (a ∷ []) zero = refl
sum32 (a ∷ []) (suc zero) = whole (a + 256 * 0) a [] (omega arith) refl
sum32 (a ∷ []) (suc (suc zero)) = whole (a + 256 * 0 + 65536 * 0) a [] (omega arith) refl
sum32 (a ∷ []) (suc (suc (suc k))) = whole (a + 256 * 0 + 65536 * 0 + 16777216 * 0) a (words32 (replicate k 0)) (omega arith) (zeros32 k)
sum32 (a ∷ b ∷ []) zero = refl
sum32 (a ∷ b ∷ []) (suc zero) = whole (a + 256 * b + 65536 * 0) (a + 256 * b) [] (omega arith) refl
sum32 (a ∷ b ∷ []) (suc (suc k)) = whole (a + 256 * b + 65536 * 0 + 16777216 * 0) (a + 256 * b) (words32 (replicate k 0)) (omega arith) (zeros32 k)
sum32 (a ∷ b ∷ c ∷ []) zero = refl
sum32 (a ∷ b ∷ c ∷ []) (suc k) = whole (a + 256 * b + 65536 * c + 16777216 * 0) (a + 256 * b + 65536 * c) (words32 (replicate k 0)) (omega arith) (zeros32 k)
sum32 (a ∷ b ∷ c ∷ d ∷ bytes) k = behind (a + 256 * b + 65536 * c + 16777216 * d) (words32 (bytes ++ replicate k 0)) (words32 bytes) (sum32 bytes k)

-- a checksum by its three sums
abbrev by_sums : ℕ → ℕ → ℕ → ℕ → List ℕ
by_sums bits a b c = if bits == 8 then le_bytes 1 (a % 2 ^ 8) else if bits == 16 then le_bytes 2 (b % 2 ^ 16) else if bits == 32 then le_bytes 4 (c % 2 ^ 32) else []

pub zeros_unsummed : (bits : ℕ) (bytes : List ℕ) (k : ℕ) → data_checksum bits (bytes ++ replicate k 0) ≡ data_checksum bits bytes
zeros_unsummed bits bytes k =
    let long = bytes ++ replicate k 0 in
    ap (λ n. by_sums bits n (sum (words16 long)) (sum (words32 long))) (sum8 bytes k)
    ∙ ap (λ n. by_sums bits (sum bytes) n (sum (words32 long))) (sum16 bytes k)
    ∙ ap (λ n. by_sums bits (sum bytes) (sum (words16 bytes)) n) (sum32 bytes k)

-- ---- filler and checksum within seven bytes

cut : (bytes sum : List ℕ) (fill width : ℕ) → fill < 4 → take (3 + width) bytes ≡ 0 ∷ 0 ∷ 0 ∷ sum → drop (3 - fill) (take (3 + width) bytes) ≡ replicate fill 0 ++ sum
cut bytes sum zero width lt is = ap (drop 3) is
cut bytes sum (suc zero) width lt is = ap (drop 2) is
cut bytes sum (suc (suc zero)) width lt is = ap (drop 1) is
cut bytes sum (suc (suc (suc zero))) width lt is = is
cut bytes sum (suc (suc (suc (suc fill)))) width lt is = absurd (omega (arith, lt))

pub ending_is : (bits width fill : ℕ) (bytes body : List ℕ) → width ≡ bits / 8 → fill ≡ (4 - (length body + width) % 4) % 4
    → take (3 + bits / 8) bytes ≡ 0 ∷ 0 ∷ 0 ∷ data_checksum bits body
    → slice_range bytes (3 - fill) (3 + width) ≡ least_filler bits body ++ data_checksum bits (body ++ least_filler bits body)
ending_is bits width fill bytes body wide full is =
    let zeros : replicate fill 0 ≡ least_filler bits body = ap (λ n. replicate n 0) (full ∙ ap (λ w. (4 - (length body + w) % 4) % 4) wide) in
    let all : 3 - fill + (3 + width - (3 - fill)) ≡ 3 + width = omega arith in
    let there : take (3 + width) bytes ≡ 0 ∷ 0 ∷ 0 ∷ data_checksum bits body = ap (λ w. take (3 + w) bytes) wide ∙ is in
    sym (drop-take (3 - fill) (3 + width - (3 - fill)) bytes)
    ∙ ap (λ n. drop (3 - fill) (take n bytes)) all
    ∙ cut bytes (data_checksum bits body) fill width (omega (arith, full)) there
    ∙ ap (λ z. z ++ data_checksum bits body) zeros
    ∙ ap (λ s. least_filler bits body ++ s) (sym (zeros_unsummed bits body ((4 - (length body + bits / 8) % 4) % 4)))
