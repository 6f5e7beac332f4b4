-- A directory of two blocks and five files, the places of its blocks and files, and what a mount finds at fault.
use Rattle.std.specs.Prelude.{◌≡◌, ℕ, ◌+◌, List, [], ◌∷◌, map, replicate, refl, Some, None, true, false}
use Rattle.r10_count.specs.Checks.{first_broken}
use Rattle.r10_dirblock.specs.declared.entry.Entry.{Entry}
use Rattle.r10_dirblock.specs.Texts.{dashes, padded_text}
use Rattle.r10_dirblock.specs.Block.{block_bytes, head_bytes, entry_bytes, blank}
use Rattle.r10_dirblock.specs.Vectors.{formatted_bytes}
use Rattle.r10_dirchain.specs.declared.chain.ChainBlock.{ChainBlock}
use Rattle.r10_dirchain.specs.Chain.{link, Linked, listed_files, at}
use Rattle.r10_dirchain.specs.Mount.{mount_rules}
use Rattle.r10_count.specs.Names.{is_volume}
use Rattle.r10_dirchain.specs.Steps.{formatted, added, emptied, updated, with_shutdown, spare}

-- `VOL`
abbrev pub volume : List ℕ
volume = 0x56 ∷ 0x4F ∷ 0x4C ∷ []

-- ---- a formatted medium

pub the_block_of_a_formatted_medium : block_bytes (at (formatted volume) 0).block ≡ formatted_bytes
unfolding head_bytes entry_bytes
the_block_of_a_formatted_medium = refl

pub formatted_is_linked : Linked 1 1 (map link (formatted volume))
formatted_is_linked = (refl, refl, refl)

pub formatted_is_usable : first_broken (mount_rules 2 64 (formatted volume)) ≡ None
formatted_is_usable = refl

pub a_volume : is_volume volume ≡ true
a_volume = refl

pub too_long_a_volume : is_volume (replicate 33 0x56) ≡ false
too_long_a_volume = refl

pub no_volume : is_volume [] ≡ false
no_volume = refl

-- `V 1`
pub a_space_in_a_volume : is_volume (0x56 ∷ 0x20 ∷ 0x31 ∷ []) ≡ false
a_space_in_a_volume = refl

-- ---- files of one block each, on a medium of 64 blocks of which two are reserved

abbrev pub file : ℕ → Entry
file n = record blank { first_block = 3 + n; block_count = 1; size = 196; close_time = replicate 8 0x30 }

abbrev pub open_file : ℕ → Entry
open_file n = record (file n) { size = 68; close_time = dashes }

abbrev pub four_listed : List ChainBlock
four_listed = added (file 3) (added (file 2) (added (file 1) (added (file 0) (formatted volume))))

abbrev pub five : List ChainBlock
five = added (file 4) four_listed

abbrev pub eight_listed : List ChainBlock
eight_listed = added (file 7) (added (file 6) (added (file 5) five))

-- the first four stand in block 1, which links to itself
pub four_places : map link four_listed ≡ record { number = 1; forward = 1; back = 1 } ∷ []
four_places = refl

-- the fifth makes block 2, to which block 1 links, and which has one entry
pub five_places : map link five ≡ record { number = 1; forward = 2; back = 1 } ∷ record { number = 2; forward = 2; back = 1 } ∷ []
five_places = refl

pub one_in_the_second : (at five 1).block.entries ≡ file 4 ∷ []
one_in_the_second = refl

pub the_second_before_it_is_linked : spare four_listed ≡ 2 ∷ []
the_second_before_it_is_linked = refl

pub the_volume_of_the_second : (at five 1).block.volume ≡ padded_text 32 volume
the_volume_of_the_second = refl

pub eight_files : listed_files eight_listed ≡ file 0 ∷ file 1 ∷ file 2 ∷ file 3 ∷ file 4 ∷ file 5 ∷ file 6 ∷ file 7 ∷ []
eight_files = refl

pub eight_are_linked : Linked 1 1 (map link five)
eight_are_linked = (refl, refl, λ e. two_is_not_one e, (refl, refl, refl))
  where
    two_is_not_one : ◌≡◌ {A = ℕ} 2 1 → ⊥
    two_is_not_one e = cc

pub eight_are_usable : first_broken (mount_rules 2 64 eight_listed) ≡ None
eight_are_usable = refl

-- the last file is the first of the second block
pub the_fifth_updated : listed_files (updated (open_file 4) five) ≡ file 0 ∷ file 1 ∷ file 2 ∷ file 3 ∷ open_file 4 ∷ []
the_fifth_updated = refl

pub none_left : listed_files (emptied five) ≡ []
none_left = refl

pub one_block_left : map link (emptied five) ≡ record { number = 1; forward = 1; back = 1 } ∷ []
one_block_left = refl

pub a_shutdown_byte : map (λ (b : ChainBlock). b.block.shutdown) (with_shutdown 0 five) ≡ 0 ∷ 0xFF ∷ []
a_shutdown_byte = refl

-- ---- the block at fault, of 16 blocks of which two are reserved

abbrev pub block : ℕ → List Entry → ChainBlock
block n entries =
    record { number = n; block = record { shutdown = 0xFF; volume = []; forward = n; reverse = 1; entries = entries } }

abbrev pub first_four : List Entry
first_four = file 0 ∷ file 1 ∷ file 2 ∷ file 3 ∷ []

pub an_open_last_file : first_broken (mount_rules 2 16 (block 1 first_four ∷ block 2 (open_file 4 ∷ []) ∷ [])) ≡ None
an_open_last_file = refl

-- more blocks than are reserved; a block out of its place; one that is not full
pub too_many_blocks : first_broken (mount_rules 1 16 (block 1 first_four ∷ block 2 [] ∷ [])) ≡ Some 2
too_many_blocks = refl

pub another_block : first_broken (mount_rules 4 16 (block 1 first_four ∷ block 3 [] ∷ [])) ≡ Some 3
another_block = refl

pub not_full : first_broken (mount_rules 2 16 (block 1 (file 0 ∷ []) ∷ block 2 [] ∷ [])) ≡ Some 1
not_full = refl

-- a place goes before a block that is not full
pub a_place_first : first_broken (mount_rules 4 16 (block 1 (file 0 ∷ []) ∷ block 3 [] ∷ [])) ≡ Some 3
a_place_first = refl

-- a file in a reserved block, after the medium's end, with a block too many, without bytes; an unclosed one before another
pub too_early : first_broken (mount_rules 3 16 (block 1 (file 0 ∷ []) ∷ [])) ≡ Some 1
too_early = refl

pub outside : first_broken (mount_rules 2 3 (block 1 (file 0 ∷ []) ∷ [])) ≡ Some 1
outside = refl

pub inside : first_broken (mount_rules 2 4 (block 1 (file 0 ∷ []) ∷ [])) ≡ None
inside = refl

pub a_block_too_many : first_broken (mount_rules 2 16 (block 1 (record (file 0) { block_count = 2 } ∷ []) ∷ [])) ≡ Some 1
a_block_too_many = refl

pub no_bytes : first_broken (mount_rules 2 16 (block 1 first_four ∷ block 2 (record (file 4) { size = 0; block_count = 0 } ∷ [])
    ∷ [])) ≡ Some 2
no_bytes = refl

pub unclosed_before : first_broken (mount_rules 2 16 (block 1 (open_file 0 ∷ file 1 ∷ []) ∷ [])) ≡ Some 1
unclosed_before = refl

-- a hole is named before an unclosed file of an earlier block
pub a_hole_first : first_broken (mount_rules 2 16 (block 1 (open_file 0 ∷ file 1 ∷ file 2 ∷ file 3 ∷ []) ∷ block 2 (file 5 ∷ [])
    ∷ [])) ≡ Some 2
a_hole_first = refl
