-- The bytes of a run of blocks.
use Rattle.std.proofs.Common.{◌≡◌, ℕ, zero, suc, ◌+◌, ◌-◌, ◌*◌, ◌<◌, ◌≤◌, inl, inr, List, [], ◌∷◌, ◌++◌, length, take, drop, get_or, refl, sym, ◌∙◌, ap, arith}
use Rattle.std.specs.List.{concat}
use Rattle.std.proofs.Math.Seq.{take-append-add}
use Rattle.std.proofs.lemmas.Bool.{cases_lt}
use Rattle.std.proofs.lemmas.List.{append-nil, get_or-drop, length-append, length-drop, length-take-le, take-append-le, take_more}
use Rattle.std.proofs.lemmas.List.Folds.{concat-append}
use Rattle.r10_medium.specs.Disk.{Image, Block, block_at, IsWhole}

-- one block more
pub concat_more : (blocks : Image) (first i : ℕ) → first + i < length blocks → concat (take i (drop first blocks)) ++ block_at blocks (first + i) ≡ concat (take (i + 1) (drop first blocks))
concat_more blocks first i lt =
    let rest = drop first blocks in
    ap (λ (l : List ℕ). concat (take i rest) ++ l) (sym (get_or-drop first blocks i []) ∙ sym (append-nil (get_or rest i [])))
    ∙ sym (concat-append (take i rest) (get_or rest i [] ∷ []))
    ∙ ap concat (sym (take_more rest i [] (omega (arith, lt, length-drop first blocks))))

whole_rest : (block : Block) (blocks : Image) → IsWhole (block ∷ blocks) → IsWhole blocks
whole_rest block blocks whole n lt = whole (suc n) (omega (arith, lt))

pub whole_drop : (first : ℕ) (blocks : Image) → IsWhole blocks → IsWhole (drop first blocks)
whole_drop first blocks whole n lt =
    ap length (get_or-drop first blocks n []) ∙ whole (first + n) (omega (arith, lt, length-drop first blocks))

pub length-concat : (blocks : Image) → IsWhole blocks → length (concat blocks) ≡ 512 * length blocks
length-concat [] whole = refl
length-concat (block ∷ blocks) whole =
    omega (arith, length-append block (concat blocks), whole 0 (omega arith), length-concat blocks (whole_rest block blocks whole))

no_blocks : (count : ℕ) → take {A = Block} count [] ≡ []
no_blocks zero = refl
no_blocks (suc count) = refl

-- so many bytes lie in the blocks that hold so many
pub take-concat : (size count : ℕ) (blocks : Image) → IsWhole blocks → size ≤ 512 * count → take size (concat (take count blocks)) ≡ take size (concat blocks)
take-concat size count [] whole le = ap (λ (l : Image). take size (concat l)) (no_blocks count)
take-concat size zero (block ∷ blocks) whole le = ap (λ (k : ℕ). take k (concat [])) none ∙ ap (λ (k : ℕ). take k (concat (block ∷ blocks))) (sym none)
  where
    none : size ≡ 0
    none = omega (arith, le)
take-concat size (suc count) (block ∷ blocks) whole le = elim (cases_lt size 512) [
  | inl less ↦ take-append-le size block (concat (take count blocks)) (omega (arith, less, whole 0 (omega arith))) ∙ sym (take-append-le size block (concat blocks) (omega (arith, less, whole 0 (omega arith))))
  | inr more ↦
      let long : length block ≡ 512 = whole 0 (omega arith) in
      let split : size ≡ length block + (size - 512) = omega (arith, more, long) in
      ap (λ (k : ℕ). take k (block ++ concat (take count blocks))) split
      ∙ take-append-add block (concat (take count blocks)) (size - 512)
      ∙ ap (λ (l : List ℕ). block ++ l) (take-concat (size - 512) count blocks (whole_rest block blocks whole) (omega (arith, le)))
      ∙ sym (take-append-add block (concat blocks) (size - 512))
      ∙ ap (λ (k : ℕ). take k (block ++ concat blocks)) (sym split)
]

pub length-read_front : (size first : ℕ) (blocks : Image) → IsWhole blocks → 512 * first + size ≤ 512 * length blocks → length (take size (concat (drop first blocks))) ≡ size
length-read_front size first blocks whole room =
    length-take-le size (concat (drop first blocks)) (omega (arith, room, length-concat (drop first blocks) (whole_drop first blocks whole), length-drop first blocks))

-- the blocks cut from bytes
pub whole_cuts : (bytes : List ℕ) (blocks : Image) → 512 * length blocks ≤ length bytes → ((k : ℕ) → k < length blocks → block_at blocks k ≡ take 512 (drop (512 * k) bytes)) → IsWhole blocks
whole_cuts bytes blocks room each n lt =
    ap length (each n lt) ∙ length-take-le 512 (drop (512 * n) bytes) (omega (arith, room, lt, length-drop (512 * n) bytes))
