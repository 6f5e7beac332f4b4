-- A formatted block, and the entry of a recording.
use Rattle.std.specs.Prelude.{◌≡◌, ℕ, List, [], ◌∷◌, ◌++◌, map, take, replicate, slice_set, Ok, Err, true, false, refl}
use Rattle.r10_count.specs.declared.civil.Parts.{Parts}
use Rattle.r10_dirblock.specs.declared.entry.Entry.{Entry}
use Rattle.r10_dirblock.specs.declared.block.DirBlock.{DirBlock}
use Rattle.r10_dirblock.specs.declared.read.DirFault.TheVariants as directory_faults
use Rattle.r10_dirblock.specs.Texts.{padded_text, stripped, day_month_year, time_text}
use Rattle.r10_dirblock.specs.Block.{block_bytes, head_bytes, entry_bytes, directory_entry_of, read_block, blank, begun_entry}
use Rattle.r10_dirblock.specs.Block.{sized, has_room_for_size, is_closed}

-- ---- the first directory block of a formatted medium

abbrev pub formatted_blank : DirBlock
formatted_blank = record {
  shutdown = 0xFF;
  volume = padded_text 32 (0x56 ∷ 0x4F ∷ 0x4C ∷ []);
  forward = 1;
  reverse = 1;
  entries = [];
}

abbrev pub formatted_bytes : List ℕ
formatted_bytes =
    (0x46 ∷ 0x4F ∷ 0x52 ∷ 0x54 ∷ 0x59 ∷ 0x74 ∷ 0x77 ∷ 0x6F ∷ 0x0F ∷ 0xFF ∷ 0x00 ∷ 0x00 ∷ 0x00 ∷ 0x00 ∷ 0x02 ∷ 0x00 ∷ [])
    ++ (0x56 ∷ 0x4F ∷ 0x4C ∷ []) ++ replicate 29 0
    ++ (0 ∷ 0 ∷ 0 ∷ 0 ∷ 0 ∷ 0 ∷ 0 ∷ 1 ∷ []) ++ (0 ∷ 0 ∷ 0 ∷ 0 ∷ 0 ∷ 0 ∷ 0 ∷ 1 ∷ []) ++ replicate 448 0

pub formatted_is_written : block_bytes formatted_blank ≡ formatted_bytes
unfolding head_bytes entry_bytes
formatted_is_written = refl

pub formatted_is_read : read_block formatted_bytes ≡ Ok formatted_blank
unfolding read_block
formatted_is_read = refl

-- ---- the entry of a recording of 272 bytes in block 3, made and closed on 29 February 2024 at 12:34:56.78

abbrev pub leap_day : Parts
leap_day = record { year = 2024; month = 2; day = 29; hour = 12; minute = 34; second = 56; centi = 78 }

-- `FLT1`
abbrev pub flight_name : List ℕ
flight_name = 0x46 ∷ 0x4C ∷ 0x54 ∷ 0x31 ∷ []

-- `12345678`
abbrev pub clock : List ℕ
clock = 0x31 ∷ 0x32 ∷ 0x33 ∷ 0x34 ∷ 0x35 ∷ 0x36 ∷ 0x37 ∷ 0x38 ∷ []

abbrev pub flight : Entry
flight = record (sized 272 (begun_entry flight_name 3 leap_day)) { close_time = clock }

abbrev pub flight_bytes : List ℕ
flight_bytes =
    flight_name ++ replicate 52 0
    ++ (0 ∷ 0 ∷ 0 ∷ 0 ∷ 0 ∷ 0 ∷ 0 ∷ 3 ∷ []) ++ (0 ∷ 0 ∷ 0 ∷ 0 ∷ 0 ∷ 0 ∷ 0 ∷ 1 ∷ []) ++ (0 ∷ 0 ∷ 0 ∷ 0 ∷ 0 ∷ 0 ∷ 0x01 ∷ 0x10 ∷ [])
    ++ (0x32 ∷ 0x39 ∷ 0x30 ∷ 0x32 ∷ 0x32 ∷ 0x30 ∷ 0x32 ∷ 0x34 ∷ []) ++ clock ++ (0 ∷ []) ++ replicate 7 0 ++ clock

pub flight_is_written : entry_bytes flight ≡ flight_bytes
unfolding entry_bytes
flight_is_written = refl

pub flight_is_read : directory_entry_of flight_bytes ≡ flight
unfolding directory_entry_of
flight_is_read = refl

pub flight_name_is_read : stripped (flight.name) ≡ flight_name
flight_name_is_read = refl

pub flight_is_closed : is_closed flight ≡ true
flight_is_closed = refl

pub begun_is_open : is_closed (begun_entry flight_name 3 leap_day) ≡ false
begun_is_open = refl

-- the block that lists it, written and read
abbrev with_flight : DirBlock
with_flight = record formatted_blank { entries = flight ∷ [] }

abbrev with_flight_bytes : List ℕ
with_flight_bytes = take 64 (slice_set formatted_bytes 11 1) ++ flight_bytes ++ replicate 336 0

pub listed_is_written : block_bytes with_flight ≡ with_flight_bytes
unfolding head_bytes entry_bytes
listed_is_written = refl

pub listed_is_read : read_block with_flight_bytes ≡ Ok with_flight
unfolding read_block directory_entry_of
listed_is_read = refl

-- `29022024` and `12345678`
pub texts_of_a_leap_day : day_month_year leap_day ∷ time_text leap_day
    ∷ [] ≡ (0x32 ∷ 0x39 ∷ 0x30 ∷ 0x32 ∷ 0x32 ∷ 0x30 ∷ 0x32 ∷ 0x34 ∷ []) ∷ clock ∷ []
texts_of_a_leap_day = refl

-- ---- sizes

abbrev blocks_of : ℕ → ℕ
blocks_of size = (sized size blank).block_count

pub blocks_for_a_size : map blocks_of (0 ∷ 1 ∷ 512 ∷ 513 ∷ 18446744073709551615 ∷ []) ≡ 0 ∷ 1 ∷ 1 ∷ 2 ∷ 36028797018963968 ∷ []
blocks_for_a_size = refl

pub room_for_a_size : map has_room_for_size (record blank { block_count = 1; size = 512 }
    ∷ record blank { block_count = 1; size = 513 } ∷ record blank { size = 1 } ∷ []) ≡ true ∷ false ∷ false ∷ []
room_for_a_size = refl

-- ---- names

-- zero bytes and spaces in any mix after a name, and those inside or before it
pub mixed_padding : stripped (0x20 ∷ 0x41 ∷ 0x20 ∷ 0x00 ∷ 0x42 ∷ 0x00 ∷ 0x20 ∷ 0x00 ∷ []) ≡ 0x20 ∷ 0x41 ∷ 0x20 ∷ 0x00 ∷ 0x42 ∷ []
mixed_padding = refl

pub no_name : stripped (0x20 ∷ 0x00 ∷ []) ≡ []
no_name = refl

pub three_letters_in_six : padded_text 6 (0x56 ∷ 0x4F ∷ 0x4C ∷ []) ≡ 0x56 ∷ 0x4F ∷ 0x4C ∷ 0 ∷ 0 ∷ 0 ∷ []
three_letters_in_six = refl

-- ---- faults

-- the formatted block with another byte at a place
abbrev pub with : ℕ → ℕ → List ℕ
with place byte = slice_set formatted_bytes place byte

pub another_name : read_block (with 7 0x4F) ≡ Err directory_faults.Magic
unfolding read_block
another_name = refl

-- the first fault of two
pub name_before_count : read_block (slice_set (with 7 0x4F) 11 5) ≡ Err directory_faults.Magic
unfolding read_block
name_before_count = refl

pub five_entries : read_block (slice_set (with 11 5) 14 4) ≡ Err directory_faults.Count
unfolding read_block
five_entries = refl

pub larger_blocks : read_block (slice_set (with 14 4) 11 4) ≡ Err directory_faults.BlockSize
unfolding read_block
larger_blocks = refl

-- the second of two entries has a size of 1 and no block
pub without_room : read_block (slice_set (with 11 2) 255 1) ≡ Err (directory_faults.Entry 1)
unfolding read_block directory_entry_of
without_room = refl

-- the count's high byte
pub many_entries : read_block (with 10 1) ≡ Err directory_faults.Count
unfolding read_block
many_entries = refl

-- the last of four, and not where only three are counted
pub fourth_without_room : read_block (slice_set (with 11 4) 479 1) ≡ Err (directory_faults.Entry 3)
unfolding read_block directory_entry_of
fourth_without_room = refl

pub unused_entry : read_block (slice_set (with 11 0) 143 1) ≡ Ok formatted_blank
unfolding read_block directory_entry_of
unused_entry = refl

-- a revision is not judged
pub another_revision : read_block (with 8 0x01) ≡ Ok formatted_blank
unfolding read_block
another_revision = refl
