-- What a recorder needs of a directory to take it into use, in order, and the block at fault where it isn't so.
use Rattle.std.specs.Prelude.{ℕ, ◌+◌, ◌-◌, ◌/◌, Bool, ◌&&◌, List, [], ◌∷◌, ◌++◌, length, map, take, nat_lt, nat_le, ◌==◌}
use Rattle.std.specs.List.{flat_map, sum_by}
use Rattle.r10_dirblock.specs.Block.{is_closed}
use Rattle.r10_dirblock.specs.declared.entry.Entry.{Entry}
use Rattle.r10_dirchain.specs.declared.chain.ChainBlock.{ChainBlock}
use Rattle.r10_dirchain.specs.declared.chain.ListedFile.{ListedFile}

-- 1. the blocks are those from n on, and none is above the reserved ones
abbrev pub place_rules : ℕ → ℕ → List ChainBlock → List (Bool × ℕ)
place_rules reserved n [] = []
place_rules reserved n (b ∷ chain) = (b.number == n && nat_le n reserved, b.number) ∷ place_rules reserved (n + 1) chain

-- 2. every block but the last has four entries
abbrev pub full_rule : ChainBlock → Bool × ℕ
full_rule b = (length b.block.entries == 4, b.number)

abbrev pub full_rules : List ChainBlock → List (Bool × ℕ)
full_rules chain = map full_rule (take (length chain - 1) chain)

-- the files, each with the number of the block that lists it
abbrev pub listed_in : ℕ → Entry → ListedFile
listed_in number e = record { entry = e; number = number }

abbrev pub listed : List ChainBlock → List ListedFile
listed chain = flat_map (λ (b : ChainBlock). map (listed_in b.number) b.block.entries) chain

-- 3. the files stand back to back from block n on, inside the medium, none is empty, and each has the blocks that it needs
abbrev pub stands : ℕ → ℕ → Entry → Bool
stands blocks n e = e.first_block == n && nat_lt 0 e.size && e.block_count == (e.size + 511) / 512 && nat_le
    (n + e.block_count) blocks

abbrev pub stand_rules : ℕ → ℕ → List ListedFile → List (Bool × ℕ)
stand_rules blocks n [] = []
stand_rules blocks n (f ∷ files) = (stands blocks n f.entry, f.number) ∷ stand_rules blocks (n + f.entry.block_count) files

-- the blocks of files that stand back to back
abbrev pub blocks_in : List Entry → ℕ
blocks_in entries = sum_by (λ (e : Entry). e.block_count) entries

-- 4. every file but the last is closed
abbrev pub closed_rule : ListedFile → Bool × ℕ
closed_rule f = (is_closed f.entry, f.number)

abbrev pub closed_rules : List ListedFile → List (Bool × ℕ)
closed_rules files = map closed_rule (take (length files - 1) files)

-- all four, for so many reserved blocks and so many blocks of the medium
abbrev pub mount_rules : ℕ → ℕ → List ChainBlock → List (Bool × ℕ)
mount_rules reserved blocks chain =
    place_rules reserved 1 chain ++ full_rules chain ++ stand_rules blocks (reserved + 1) (listed chain)
    ++ closed_rules (listed chain)
