-- Entries of bytes: a stamp, a header that has their number in its low half, and the bytes in whole words of two.
use Rattle.std.specs.Prelude.{◌≡◌, ℕ, ◌+◌, ◌%◌, ◌^◌, ◌≤◌, Option, Some, List, length, take}
use Rattle.std.proofs.Common.{arith, ap, sym, ◌∙◌, length-append}
use Rattle.std.proofs.lemmas.List.{length-replicate}
use Rattle.std.proofs.Math.Seq.{take-append_seam}
use Rattle.r10_count.specs.Bytes.{u32_at}
use Rattle.r10_count.specs.Padding.{padding, padded}

-- the number of bytes that the header after a stamp tells
abbrev pub told_bytes : List ℕ → ℕ
told_bytes front = u32_at front 8 % 2 ^ 16

-- the length of an entry that begins with this stamp and header
abbrev pub told_size : List ℕ → Option ℕ
told_size front = Some (12 + told_bytes front + told_bytes front % 2)

pub told-front : (front : List ℕ) (n : ℕ) → told_size front ≡ Some n → 12 ≤ n
told-front front n e = let is : 12 + told_bytes front + told_bytes front % 2 ≡ n = cc in omega arith

pub padded-size : (s : List ℕ) → length (padded s) ≡ length s + length s % 2
padded-size s = omega (arith, length-append s (padding (length s)), length-replicate {A = ℕ} (length s % 2) 0)

-- bytes before their padding
pub same_padded : (s t : List ℕ) → length s ≡ length t → padded s ≡ padded t → s ≡ t
same_padded s t n e =
    let left : s ≡ take (length s) (padded s) = sym (take-append_seam s (padding (length s))) in
    left ∙ ap (take (length s)) e ∙ rw n (take-append_seam t (padding (length t)))
