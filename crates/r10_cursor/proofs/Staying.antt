-- Files of a directory whose bytes stay.
use Rattle.std.proofs.Common.{◌≡◌, ℕ, ◌+◌, ◌/◌, ◌≤◌}
use Rattle.r10_dirblock.specs.declared.entry.Entry.{Entry as DirectoryEntry}

-- where a file stands
record IsAt (blocks n : ℕ) (e : DirectoryEntry) : Type 0 where
  first : e.first_block ≡ n
  count : e.block_count ≡ (e.size + 511) / 512
  within : n + e.block_count ≤ blocks
