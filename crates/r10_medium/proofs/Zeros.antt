-- A medium of which the blocks after the highest written one are zeros.
use Rattle.std.proofs.Common.{◌≡◌, ℕ, ◌+◌, ◌-◌, ◌<◌, ◌≤◌, ◌++◌, length, take, replicate, get_or, set, sym, ◌∙◌, ap, arith}
use Rattle.std.proofs.lemmas.List.{append-nil, append_assoc, length-append, length-replicate, replicate-append-replicate, set-append_left, take_all}
use Rattle.r10_medium.specs.Disk.{Image, Block}
use Rattle.r10_medium.specs.Memory.{zeros, with_zeros}

pub put_made : (size n : ℕ) (front : Image) (block : Block) → n < length front → length (set front n block) ≡ length front
    → with_zeros size (set front n block) ≡ set (with_zeros size front) n block
put_made size n front block lt same =
    ap (λ (k : ℕ). set front n block ++ replicate (size - k) zeros) same ∙ sym (set-append_left front (replicate (size - length front) zeros) n block lt)

-- zeros that are made after the front
pub more_made : (size to : ℕ) (front made : Image) → length front ≤ to → to ≤ size → made ≡ take to front ++ replicate (to - length front) zeros
    → with_zeros size made ≡ with_zeros size front
more_made size to front made le room is =
    ap (λ (l : Image). l ++ replicate (size - length made) zeros) plain
    ∙ append_assoc front (replicate (to - length front) zeros) (replicate (size - length made) zeros)
    ∙ ap (λ (l : Image). front ++ l)
    (replicate-append-replicate (to - length front) (size - length made) zeros ∙ ap (λ (k : ℕ). replicate k zeros) (omega (arith, le, room, long)))
  where
    plain : made ≡ front ++ replicate (to - length front) zeros
    plain = is ∙ ap (λ (l : Image). l ++ replicate (to - length front) zeros) (take_all to front le)

    long : length made ≡ to
    long = omega (arith, le, ap length plain, length-append front (replicate (to - length front) zeros), length-replicate (to - length front) zeros)

-- where all are made, there is nothing after them
pub all_made : (size : ℕ) (front : Image) → size ≤ length front → front ≡ with_zeros size front
all_made size front le = sym (append-nil front) ∙ ap (λ (k : ℕ). front ++ replicate k zeros) none
  where
    none : 0 ≡ size - length front
    none = omega (arith, le)
