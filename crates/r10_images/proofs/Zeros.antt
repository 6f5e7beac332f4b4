-- The image of a formatted medium.
use Rattle.std.proofs.Common.{◌≡◌, ◌≢◌, ℕ, zero, suc, ◌+◌, ◌-◌, ◌<◌, ◌≤◌, List, [], ◌∷◌, ◌++◌, length, replicate, append_assoc, ap, sym, ◌∙◌, refl, arith}
use Rattle.std.specs.List.{concat}
use Rattle.std.proofs.lemmas.List.{append-nil, length-replicate, get_or-replicate, replicate_more, ext_get_or}
use Rattle.std.proofs.lemmas.List.Elements.{All-cons, All-nil}
use Rattle.std.proofs.lemmas.List.Folds.{concat-append}
use Rattle.r10_medium.specs.Disk.{Image, block_at}
use Rattle.r10_medium.specs.Memory.{zeros}
use Rattle.r10_dirchain.specs.OnMedium.{Turned}
use Rattle.r10_dirchain.specs.Steps.{formatted}
use Rattle.r10_images.specs.Formatted.{formatted_block, formatted_image}

-- one block of zeros more
pub zeros_more : (n : ℕ) → concat (replicate (n + 1) zeros) ≡ concat (replicate n zeros) ++ zeros
zeros_more n =
    ap concat (sym (replicate_more n zeros)) ∙ concat-append (replicate n zeros) (zeros ∷ []) ∙ ap (λ t. concat (replicate n zeros) ++ t) (append-nil zeros)

-- block 0, block 1 and the blocks after them are the image
pub image_bytes : (blocks : ℕ) (volume : List ℕ) → (concat (replicate 1 zeros) ++ formatted_block volume) ++ concat (replicate (blocks - 2) zeros) ≡ concat (formatted_image blocks volume)
image_bytes blocks volume =
    append_assoc (concat (replicate 1 zeros)) (formatted_block volume) (concat (replicate (blocks - 2) zeros))
    ∙ ap (λ t. t ++ (formatted_block volume ++ concat (replicate (blocks - 2) zeros))) (append-nil zeros)

module _ (blocks : ℕ) (volume : List ℕ) where
  -- block k of the image is zeros, but for block 1
  zeros_but_one : (k : ℕ) → k < blocks → k ≢ 1 → block_at (formatted_image blocks volume) k ≡ zeros
  zeros_but_one zero lt other = refl
  zeros_but_one (suc zero) lt other = absurd (other refl)
  zeros_but_one (suc (suc k)) lt other = get_or-replicate (blocks - 2) k zeros [] (omega (arith, lt))

  pub formatted_length : 2 ≤ blocks → length (formatted_image blocks volume) ≡ blocks
  formatted_length some = omega (arith, some, length-replicate (blocks - 2) zeros)

  pub left_is : (left : Image) → 2 ≤ blocks → Turned (formatted volume) (1 ∷ []) (replicate blocks zeros) left → block_at left 1 ≡ formatted_block volume
      → left ≡ formatted_image blocks volume
  left_is left some turned first = ext_get_or [] left (formatted_image blocks volume) (size ∙ sym (formatted_length some)) each
    where
      size : length left ≡ blocks
      size = turned.others.size ∙ length-replicate blocks zeros

      other_block : (k : ℕ) → k < blocks → k ≢ 1 → block_at left k ≡ block_at (formatted_image blocks volume) k
      other_block k lt other =
          turned.others.others k (All-cons (λ (n : ℕ). k ≢ n) 1 [] other (All-nil (λ (n : ℕ). k ≢ n)))
          ∙ get_or-replicate blocks k zeros [] lt
          ∙ sym (zeros_but_one k lt other)

      each : (k : ℕ) → k < length left → block_at left k ≡ block_at (formatted_image blocks volume) k
      each zero lt = other_block 0 (omega (arith, lt, size)) (λ e. absurd (omega (arith, e)))
      each (suc zero) lt = first
      each (suc (suc k)) lt = other_block (suc (suc k)) (omega (arith, lt, size)) (λ e. absurd (omega (arith, e)))
