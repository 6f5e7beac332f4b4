-- Bytes after the blocks that change.
use Rattle.std.proofs.Common.{◌≡◌, ℕ, ◌+◌, ◌<◌, ◌≤◌, List, [], take, drop, sym, ap, ◌∙◌, arith, ext_get_or, get_or-drop}
use Rattle.std.specs.List.{All, concat}
use Rattle.std.proofs.lemmas.List.{length-drop}
use Rattle.r10_medium.specs.Disk.{Image}
use Rattle.r10_blockout.specs.Blocks.{bytes_from}
use Rattle.r10_dirchain.specs.OnMedium.{SameButIn}

pub bytes_behind : (old new : Image) (reserved first size : ℕ) (numbers : List ℕ) → SameButIn numbers old new → All (λ (n : ℕ). n ≤ reserved) numbers → reserved < first → bytes_from new first size ≡ bytes_from old first size
bytes_behind old new reserved first size numbers same all less =
    ap (λ (l : Image). take size (concat l))
    (ext_get_or [] (drop first new) (drop first old) (omega (arith, same.size, length-drop first new, length-drop first old))
    (λ k lt. get_or-drop first new k [] ∙ same.others (first + k) (λ i d lt is. omega (arith, is, less, all i d lt)) ∙ sym (get_or-drop first old k [])))
