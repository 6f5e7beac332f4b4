-- The blocks in the bytes of an image.
use Rattle.std.specs.Prelude.{ℕ, ◌*◌, ◌/◌, List, length, map, take, drop}
use Rattle.std.specs.List.{range_with_len}
use Rattle.r10_medium.specs.Disk.{Block, Image}

abbrev pub cut : List ℕ → ℕ → Block
cut bytes n = take 512 (drop (512 * n) bytes)

-- 512 bytes a block; those after the last whole block are no part of it
abbrev pub image_blocks : List ℕ → Image
image_blocks bytes = map (cut bytes) (range_with_len 0 (length bytes / 512))
