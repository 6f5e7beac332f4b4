-- Worked values.
use Rattle.std.specs.Prelude.{◌≡◌, [], ◌∷◌, ◌++◌, map, replicate, refl}
use Rattle.r10_blockout.specs.Blocks.{Shows, blocks_for, file_block, full_blocks, padded_block}

pub one_byte : padded_block (0x41 ∷ []) ≡ 0x41 ∷ replicate 511 0
one_byte = refl

pub longer_bytes : padded_block (replicate 513 7) ≡ replicate 512 7
longer_bytes = refl

pub second_block : file_block (replicate 512 7 ++ 0x41 ∷ []) 1 ≡ 0x41 ∷ replicate 511 0
second_block = refl

-- no bytes, a first recording of 272 bytes, a full block, a byte more, and 257 messages of a channel
pub numbers_of_blocks : map blocks_for (0 ∷ 272 ∷ 512 ∷ 513 ∷ 16732 ∷ []) ≡ 0 ∷ 1 ∷ 1 ∷ 2 ∷ 33 ∷ []
numbers_of_blocks = refl

pub a_full_block : full_blocks (replicate 512 7 ++ 0x41 ∷ []) ≡ replicate 512 7 ∷ []
a_full_block = refl

-- what block 1 begins with is shown from block 1 on
pub shown_twice : Shows (replicate 512 0 ∷ (0x41 ∷ 0x42 ∷ replicate 510 9) ∷ []) 1 (0x41 ∷ 0x42 ∷ [])
shown_twice = refl
