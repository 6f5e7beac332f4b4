-- Where the files of a directory lie.
use Rattle.std.specs.Prelude.{ℕ, ◌+◌, ◌*◌, ◌≤◌, Bool, List, length, map, nat_le}
use Rattle.r10_blockout.specs.Blocks.{bytes_from}
use Rattle.r10_medium.specs.Disk.{Image}
use Rattle.r10_dirblock.specs.declared.entry.Entry.{Entry}
use Rattle.r10_dirchain.specs.Mount.{listed}
use Rattle.r10_dirchain.specs.declared.chain.ChainBlock.{ChainBlock}
use Rattle.r10_dirchain.specs.declared.chain.ListedFile.{ListedFile}

-- the file's blocks lie inside a medium of so many
abbrev pub is_inside : ℕ → Entry → Bool
is_inside blocks e = nat_le (e.first_block + e.block_count) blocks

-- that they do, and the block at fault where they don't: the one that lists the file
abbrev pub inside_rule : ℕ → ListedFile → Bool × ℕ
inside_rule blocks f = (is_inside blocks f.entry, f.number)

-- the same of each file of a directory, in order
abbrev pub inside_rules : ℕ → List ChainBlock → List (Bool × ℕ)
inside_rules blocks chain = map (inside_rule blocks) (listed chain)

-- the bytes of a file: as many as its entry says, from its first block on
abbrev pub bytes_on : Image → Entry → List ℕ
bytes_on image e = bytes_from image e.first_block e.size

-- the file's bytes lie inside the medium
abbrev pub IsPlaced : Image → ListedFile → Type 0
IsPlaced image f = 512 * f.entry.first_block + f.entry.size ≤ 512 * length image
