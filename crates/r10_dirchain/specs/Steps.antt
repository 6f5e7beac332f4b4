-- The steps of a directory.
use Rattle.std.specs.Prelude.{ℕ, ◌+◌, ◌-◌, Bool, List, [], ◌∷◌, ◌++◌, length, take, slice_set, Option, None, Some, nat_le, ◌==◌}
use Rattle.std.specs.Prelude.{if◌then◌else◌}
use Rattle.std.specs.List.{last_or, suffix_len}
use Rattle.r10_dirblock.specs.Block.{blank}
use Rattle.r10_dirblock.specs.Texts.{padded_text}
use Rattle.r10_dirblock.specs.declared.entry.Entry.{Entry}
use Rattle.r10_dirblock.specs.declared.block.DirBlock.{DirBlock}
use Rattle.r10_dirchain.specs.declared.chain.ChainBlock.{ChainBlock}
use Rattle.r10_dirchain.specs.Chain.{at, listed_files}

-- the directory of a medium that is formatted: block 1 alone, properly dismounted and without files
abbrev pub formatted : List ℕ → List ChainBlock
formatted volume =
    record {
      number = 1;
      block = record {
        shutdown = 0xFF;
        volume = padded_text 32 volume;
        forward = 1;
        reverse = 1;
        entries = [];
      };
    } ∷ []

-- another content in the block at place i
abbrev pub replaced : List ChainBlock → ℕ → DirBlock → List ChainBlock
replaced chain i block = slice_set chain i (record { number = (at chain i).number; block = block })

-- another shutdown byte in the first block
abbrev pub with_shutdown : ℕ → List ChainBlock → List ChainBlock
with_shutdown shutdown chain = replaced chain 0 (record (at chain 0).block { shutdown = shutdown })

-- block 1 alone, without entries
abbrev pub emptied : List ChainBlock → List ChainBlock
emptied chain = record { number = 1; block = record (at chain 0).block { forward = 1; reverse = 1; entries = [] } } ∷ []

-- the last file's entry; one of zero bytes where there is no file
abbrev pub entry_or_blank : Option Entry → Entry
entry_or_blank None = blank
entry_or_blank (Some e) = e

abbrev pub last_listed : List ChainBlock → Entry
last_listed chain = entry_or_blank (last_or None (listed_files chain))

-- another last entry
abbrev pub with_last_entry : Entry → List Entry → List Entry
with_last_entry entry entries = take (length entries - 1) entries ++ entry ∷ []

-- the place of the last block that lists a file
abbrev pub lists_none : ChainBlock → Bool
lists_none b = length b.block.entries == 0

abbrev pub last_listing : List ChainBlock → ℕ
last_listing chain = length chain - suffix_len lists_none chain - 1

-- another last file
abbrev pub updated : Entry → List ChainBlock → List ChainBlock
updated entry chain =
    let i = last_listing chain in
    replaced chain i (record (at chain i).block { entries = with_last_entry entry (at chain i).block.entries })

-- the place of the last block
abbrev pub last_place : List ChainBlock → ℕ
last_place chain = length chain - 1

abbrev pub last_block : List ChainBlock → ChainBlock
last_block chain = at chain (last_place chain)

-- whether the last block has no place for one entry more
abbrev pub last_is_full : List ChainBlock → Bool
last_is_full chain = nat_le 4 (length (last_block chain).block.entries)

-- one file more, in the last block
abbrev pub with_entry_more : Entry → List ChainBlock → List ChainBlock
with_entry_more entry chain =
    replaced chain (last_place chain) (record (last_block chain).block { entries = (last_block chain).block.entries ++ entry ∷ [] })

-- the number of the next block of a directory whose blocks are those from 1 on
abbrev pub next_number : List ChainBlock → ℕ
next_number chain = length chain + 1

-- a new last block, of the same volume, which lists one file
abbrev pub next_directory_block : Entry → List ChainBlock → ChainBlock
next_directory_block entry chain = record {
  number = next_number chain;
  block = record {
    shutdown = 0xFF;
    volume = (last_block chain).block.volume;
    forward = next_number chain;
    reverse = (last_block chain).number;
    entries = entry ∷ [];
  };
}

-- one file more, in a new last block
abbrev pub extended : Entry → List ChainBlock → List ChainBlock
extended entry chain =
    replaced chain (last_place chain) (record (last_block chain).block { forward = next_number chain })
    ++ next_directory_block entry chain ∷ []

-- one file more
abbrev pub added : Entry → List ChainBlock → List ChainBlock
added entry chain = if last_is_full chain then extended entry chain else with_entry_more entry chain

-- the numbers of the blocks that the step writes before anything links to them
abbrev pub spare : List ChainBlock → List ℕ
spare chain = if last_is_full chain then next_number chain ∷ [] else []

-- how many blocks the directory has when it lists one file more
abbrev pub blocks_with_one_more : List ChainBlock → ℕ
blocks_with_one_more chain = length chain + length (spare chain)
