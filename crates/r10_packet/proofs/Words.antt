-- The sum of words, by the chunks that the loop reads.
use Rattle.std.proofs.Common.{◌≡◌, get_or, ℕ, zero, suc, ◌+◌, ◌*◌, ◌/◌, ◌%◌, ◌^◌, ◌≤◌, List, [], ◌∷◌, length, take, drop, sym, ap, ◌∙◌, arith, take_all}
use Rattle.std.specs.List.{sum, sum_by}
use Rattle.std.specs.Simd.{first_chunks}
use Rattle.std.specs.Int.{w16, w32, from_le_bytes}
use Rattle.std.proofs.lemmas.List.Sums.{sum_by-cons}
use Rattle.std.proofs.Math.Nat.{mod-add-mod}
use Rattle.r10_packet.specs.Sums.{words16, words32, sum_of_words16, sum_of_words32}

joined : (w m n : ℕ) → w + (m + n) ≡ w + m + n
joined w m n = omega arith

ap2 : {a b c d : ℕ} → a ≡ b → c ≡ d → a + c ≡ b + d
ap2 e f = omega arith

turned : (a b : ℕ) → a + 256 * b ≡ from_le_bytes w16 (a ∷ b ∷ [])
turned a b = omega arith

pub sum_words16 : (k : ℕ) (xs : List ℕ) → k * 2 ≤ length xs → sum (words16 xs) ≡ sum_by (from_le_bytes w16) (first_chunks 2 k xs) + sum (words16 (drop (k * 2) xs))
sum_words16 zero xs h = omega arith
sum_words16 (suc k) [] h = absurd (omega arith)
sum_words16 (suc k) (a ∷ []) h = absurd (omega arith)
sum_words16 (suc k) (a ∷ b ∷ rest) h =
    let word = from_le_bytes w16 (a ∷ b ∷ []) in
    let le : k * 2 ≤ length rest = omega arith in
    let two : suc k * 2 ≡ suc (suc (k * 2)) = omega arith in
    let x : sum (words16 (a ∷ b ∷ rest)) ≡ word + sum (words16 rest) = sum_by-cons (λ w. w) (a + 256 * b) (words16 rest) ∙ ap (λ w. w + sum (words16 rest)) (turned a b) in
    let y : sum_by (from_le_bytes w16) (first_chunks 2 (suc k) (a ∷ b ∷ rest)) ≡ word + sum_by (from_le_bytes w16) (first_chunks 2 k rest) = sum_by-cons (from_le_bytes w16) (a ∷ b ∷ []) (first_chunks 2 k rest) in
    let z : sum (words16 (drop (suc k * 2) (a ∷ b ∷ rest))) ≡ sum (words16 (drop (k * 2) rest)) = ap (λ m. sum (words16 (drop m (a ∷ b ∷ rest)))) two in
    x ∙ ap (λ m. word + m) (sum_words16 k rest le) ∙ joined word (sum_by (from_le_bytes w16) (first_chunks 2 k rest)) (sum (words16 (drop (k * 2) rest))) ∙ sym (ap2 y z)

turned32 : (a b c d : ℕ) → a + 256 * b + 65536 * c + 16777216 * d ≡ from_le_bytes w32 (a ∷ b ∷ c ∷ d ∷ [])
turned32 a b c d = omega arith

pub sum_words32 : (k : ℕ) (xs : List ℕ) → k * 4 ≤ length xs → sum (words32 xs) ≡ sum_by (from_le_bytes w32) (first_chunks 4 k xs) + sum (words32 (drop (k * 4) xs))
sum_words32 zero xs h = omega arith
sum_words32 (suc k) [] h = absurd (omega arith)
sum_words32 (suc k) (a ∷ []) h = absurd (omega arith)
sum_words32 (suc k) (a ∷ b ∷ []) h = absurd (omega arith)
sum_words32 (suc k) (a ∷ b ∷ c ∷ []) h = absurd (omega arith)
sum_words32 (suc k) (a ∷ b ∷ c ∷ d ∷ rest) h =
    let word = from_le_bytes w32 (a ∷ b ∷ c ∷ d ∷ []) in
    let le : k * 4 ≤ length rest = omega arith in
    let two : suc k * 4 ≡ suc (suc (suc (suc (k * 4)))) = omega arith in
    let x : sum (words32 (a ∷ b ∷ c ∷ d ∷ rest)) ≡ word + sum (words32 rest) = sum_by-cons (λ w. w) (a + 256 * b + 65536 * c + 16777216 * d) (words32 rest) ∙ ap (λ w. w + sum (words32 rest)) (turned32 a b c d) in
    let y : sum_by (from_le_bytes w32) (first_chunks 4 (suc k) (a ∷ b ∷ c ∷ d ∷ rest)) ≡ word + sum_by (from_le_bytes w32) (first_chunks 4 k rest) = sum_by-cons (from_le_bytes w32) (a ∷ b ∷ c ∷ d ∷ []) (first_chunks 4 k rest) in
    let z : sum (words32 (drop (suc k * 4) (a ∷ b ∷ c ∷ d ∷ rest))) ≡ sum (words32 (drop (k * 4) rest)) = ap (λ m. sum (words32 (drop m (a ∷ b ∷ c ∷ d ∷ rest)))) two in
    x ∙ ap (λ m. word + m) (sum_words32 k rest le) ∙ joined word (sum_by (from_le_bytes w32) (first_chunks 4 k rest)) (sum (words32 (drop (k * 4) rest))) ∙ sym (ap2 y z)

-- what the loop over the whole words leaves, and the words of what is after them
pub sum16_is : (xs : List ℕ) (words : List (List ℕ)) (rest : List ℕ) (total i : ℕ) → words ≡ first_chunks 2 (length xs / 2) xs → rest ≡ drop (length xs / 2 * 2) xs
    → total ≡ sum_by (from_le_bytes w16) (take i words) % 2 ^ 16 → length words ≤ i → sum_of_words16 xs ≡ (total + sum (words16 rest)) % 2 ^ 16
sum16_is xs words rest total i e r t le =
    let le2 : length xs / 2 * 2 ≤ length xs = omega arith in
    let whole : take i words ≡ first_chunks 2 (length xs / 2) xs = take_all i words le ∙ e in
    let t2 : total ≡ sum_by (from_le_bytes w16) (first_chunks 2 (length xs / 2) xs) % 2 ^ 16 = t ∙ ap (λ ws. sum_by (from_le_bytes w16) ws % 2 ^ 16) whole in
    ap (λ n. n % 2 ^ 16) (sum_words16 (length xs / 2) xs le2)
    ∙ sym (mod-add-mod (sum_by (from_le_bytes w16) (first_chunks 2 (length xs / 2) xs)) (2 ^ 16) (sum (words16 (drop (length xs / 2 * 2) xs))))
    ∙ ap (λ n. (n + sum (words16 (drop (length xs / 2 * 2) xs))) % 2 ^ 16) (sym t2)
    ∙ ap (λ ys. (total + sum (words16 ys)) % 2 ^ 16) (sym r)

pub sum32_is : (xs : List ℕ) (words : List (List ℕ)) (rest : List ℕ) (total i : ℕ) → words ≡ first_chunks 4 (length xs / 4) xs → rest ≡ drop (length xs / 4 * 4) xs
    → total ≡ sum_by (from_le_bytes w32) (take i words) % 2 ^ 32 → length words ≤ i → sum_of_words32 xs ≡ (total + sum (words32 rest)) % 2 ^ 32
sum32_is xs words rest total i e r t le =
    let le2 : length xs / 4 * 4 ≤ length xs = omega arith in
    let whole : take i words ≡ first_chunks 4 (length xs / 4) xs = take_all i words le ∙ e in
    let t2 : total ≡ sum_by (from_le_bytes w32) (first_chunks 4 (length xs / 4) xs) % 2 ^ 32 = t ∙ ap (λ ws. sum_by (from_le_bytes w32) ws % 2 ^ 32) whole in
    ap (λ n. n % 2 ^ 32) (sum_words32 (length xs / 4) xs le2)
    ∙ sym (mod-add-mod (sum_by (from_le_bytes w32) (first_chunks 4 (length xs / 4) xs)) (2 ^ 32) (sum (words32 (drop (length xs / 4 * 4) xs))))
    ∙ ap (λ n. (n + sum (words32 (drop (length xs / 4 * 4) xs))) % 2 ^ 32) (sym t2)
    ∙ ap (λ ys. (total + sum (words32 ys)) % 2 ^ 32) (sym r)

-- a last word that isn't whole
pub last16_1 : (xs : List ℕ) → length xs ≡ 1 → sum (words16 xs) ≡ get_or xs 0 0
last16_1 [] h = absurd (omega arith)
last16_1 (a ∷ []) h = omega arith
last16_1 (a ∷ b ∷ xs) h = absurd (omega arith)

pub last32_1 : (xs : List ℕ) → length xs ≡ 1 → sum (words32 xs) ≡ get_or xs 0 0
last32_1 [] h = absurd (omega arith)
last32_1 (a ∷ []) h = omega arith
last32_1 (a ∷ b ∷ xs) h = absurd (omega arith)

pub last32_2 : (xs : List ℕ) → length xs ≡ 2 → sum (words32 xs) ≡ get_or xs 0 0 + 256 * get_or xs 1 0
last32_2 [] h = absurd (omega arith)
last32_2 (a ∷ []) h = absurd (omega arith)
last32_2 (a ∷ b ∷ []) h = omega arith
last32_2 (a ∷ b ∷ c ∷ xs) h = absurd (omega arith)

pub last32_3 : (xs : List ℕ) → length xs ≡ 3 → sum (words32 xs) ≡ get_or xs 0 0 + 256 * get_or xs 1 0 + 65536 * get_or xs 2 0
last32_3 [] h = absurd (omega arith)
last32_3 (a ∷ []) h = absurd (omega arith)
last32_3 (a ∷ b ∷ []) h = absurd (omega arith)
last32_3 (a ∷ b ∷ c ∷ []) h = omega arith
last32_3 (a ∷ b ∷ c ∷ d ∷ xs) h = absurd (omega arith)
