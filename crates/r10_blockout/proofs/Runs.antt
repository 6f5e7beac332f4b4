-- Runs of bytes in the blocks that hold them.
use Rattle.std.proofs.Common.{◌≡◌, ℕ, zero, suc, ◌+◌, ◌-◌, ◌*◌, ◌/◌, ◌%◌, ◌≤◌, List, [], ◌∷◌, ◌++◌, length, take, drop, sym, ap, ◌∙◌, arith}
use Rattle.std.specs.List.{concat}
use Rattle.std.proofs.Math.Seq.{drop-append-add, drop-nil}
use Rattle.std.proofs.lemmas.List.{drop-drop, drop-take, take-take}
use Rattle.r10_medium.specs.Disk.{Image, IsWhole}
use Rattle.r10_medium.proofs.Bytes.{take-concat, whole_drop}
use Rattle.r10_blockout.specs.Blocks.{Shows}
use Rattle.r10_blockout.specs.Bytes.{bytes_of}

-- what is left of the bytes after some blocks
drop-concat : (q s : ℕ) (blocks : Image) → IsWhole blocks → drop (512 * q + s) (concat blocks) ≡ drop s (concat (drop q blocks))
drop-concat zero s blocks whole = ap (λ (k : ℕ). drop k (concat blocks)) none
  where
    none : 512 * 0 + s ≡ s
    none = omega arith
drop-concat (suc q) s [] whole = drop-nil (512 * suc q + s) ∙ sym (drop-nil s)
drop-concat (suc q) s (block ∷ blocks) whole =
    ap (λ (k : ℕ). drop k (block ++ concat blocks)) further
    ∙ drop-append-add block (concat blocks) (512 * q + s)
    ∙ drop-concat q s blocks (whole_drop 1 (block ∷ blocks) whole)
  where
    further : 512 * suc q + s ≡ length block + (512 * q + s)
    further = omega (arith, whole 0 (omega arith))

-- a run lies in the blocks that are read for it
pub run_in_blocks : (image : Image) (first offset size count : ℕ) (read : List ℕ) → IsWhole image → offset % 512 + size ≤ 512 * count
    → read ≡ concat (take count (drop (first + offset / 512) image))
    → take (offset % 512 + size - offset % 512) (drop (offset % 512) read) ≡ bytes_of image first offset size
run_in_blocks image first offset size count read whole held is =
    ap (λ (k : ℕ). take k (drop skip read)) plain
    ∙ ap (λ (l : List ℕ). take size (drop skip l)) is
    ∙ sym (drop-take skip size (concat (take count blocks)))
    ∙ ap (λ (l : List ℕ). drop skip l) (take-concat (skip + size) count blocks (whole_drop (first + offset / 512) image whole) held)
    ∙ drop-take skip size (concat blocks)
    ∙ ap (λ (l : List ℕ). take size l) behind
  where
    skip : ℕ
    skip = offset % 512

    blocks : Image
    blocks = drop (first + offset / 512) image

    plain : skip + size - skip ≡ size
    plain = omega arith

    split : 512 * (offset / 512) + skip ≡ offset
    split = omega arith

    behind : drop skip (concat blocks) ≡ drop offset (concat (drop first image))
    behind =
        ap (λ (l : Image). drop skip (concat l)) (sym (drop-drop (offset / 512) first image))
        ∙ sym (drop-concat (offset / 512) skip (drop first image) (whole_drop first image whole))
        ∙ ap (λ (k : ℕ). drop k (concat (drop first image))) split

pub shown_as : (image : Image) (first : ℕ) (bytes : List ℕ) (offset size : ℕ) → Shows image first bytes → offset + size ≤ length bytes → bytes_of image first offset size ≡ take size (drop offset bytes)
shown_as image first bytes offset size shows within =
    sym (drop-take offset size all)
    ∙ ap (λ (l : List ℕ). drop offset l) (sym shorter)
    ∙ drop-take offset size bytes
  where
    all : List ℕ
    all = concat (drop first image)

    shorter : take (offset + size) bytes ≡ take (offset + size) all
    shorter = ap (λ (l : List ℕ). take (offset + size) l) (sym shows) ∙ take-take (offset + size) (length bytes) all within
