-- A directory block of 512 bytes: its fields, the highest byte first, and up to four file entries.
use Rattle.std.specs.Prelude.{◌≡◌, ℕ, ◌+◌, ◌-◌, ◌*◌, ◌/◌, ◌^◌, ◌<◌, ◌≤◌, Bool, true, List, [], ◌∷◌, ◌++◌, length, map, take, drop}
use Rattle.std.specs.Prelude.{replicate, slice_index, Option, Some, None, Result, Ok, Err, nat_le, not, ◌==◌}
use Rattle.std.specs.List.{flat_map, range_with_len, All}
use Rattle.std.specs.Int.{w16, w32, w64, to_be_bytes, from_be_bytes}
use Rattle.std.specs.Str.{bytes_eq}
use Rattle.r10_count.specs.Checks.{first_broken}
use Rattle.r10_count.specs.declared.civil.Parts.{Parts}
use Rattle.r10_dirblock.specs.Texts.{padded_text, day_month_year, time_text, dashes}
use Rattle.r10_dirblock.specs.declared.entry.Entry.{Entry}
use Rattle.r10_dirblock.specs.declared.block.DirBlock.{DirBlock}
use Rattle.r10_dirblock.specs.declared.read.DirFault.{DirFault}
use Rattle.r10_dirblock.specs.declared.read.DirFault.TheVariants as directory_faults

-- ---- writing

-- `FORTYtwo`
abbrev pub magic : List ℕ
magic = 0x46 ∷ 0x4F ∷ 0x52 ∷ 0x54 ∷ 0x59 ∷ 0x74 ∷ 0x77 ∷ 0x6F ∷ []

-- the 112 bytes of an entry
unfoldable pub entry_bytes : Entry → List ℕ
entry_bytes e =
    e.name ++ to_be_bytes w64 e.first_block ++ to_be_bytes w64 e.block_count ++ to_be_bytes w64 e.size
    ++ e.create_date ++ e.create_time ++ (e.time_type ∷ []) ++ e.reserved ++ e.close_time

-- the 64 bytes before the entries, with this revision
unfoldable pub head_bytes : ℕ → DirBlock → List ℕ
head_bytes revision d =
    magic ++ (revision ∷ d.shutdown ∷ []) ++ to_be_bytes w16 (length d.entries) ++ to_be_bytes w32 512 ++ d.volume
    ++ to_be_bytes w64 d.forward ++ to_be_bytes w64 d.reverse

-- the bytes up to the last entry
abbrev pub used_bytes : ℕ → DirBlock → List ℕ
used_bytes revision d = head_bytes revision d ++ flat_map entry_bytes d.entries

-- the 512 bytes that are written: revision 0x0F, and zeros in place of unused entries
abbrev pub block_bytes : DirBlock → List ℕ
block_bytes d = used_bytes 0x0F d ++ replicate (512 - length (used_bytes 0x0F d)) 0

-- ---- reading

-- n bytes from a place on
abbrev pub part : ℕ → ℕ → List ℕ → List ℕ
part at n bytes = take n (drop at bytes)

abbrev pub big_endian_u64_at : ℕ → List ℕ → ℕ
big_endian_u64_at at bytes = from_be_bytes w64 (part at 8 bytes)

abbrev pub entry_count : List ℕ → ℕ
entry_count bytes = from_be_bytes w16 (part 10 2 bytes)

-- the entry whose bytes begin here
unfoldable pub directory_entry_of : List ℕ → Entry
directory_entry_of here = record {
  name = part 0 56 here;
  first_block = big_endian_u64_at 56 here;
  block_count = big_endian_u64_at 64 here;
  size = big_endian_u64_at 72 here;
  create_date = part 80 8 here;
  create_time = part 88 8 here;
  time_type = slice_index here 96;
  reserved = part 97 7 here;
  close_time = part 104 8 here;
}

abbrev pub directory_entry_at : List ℕ → ℕ → Entry
directory_entry_at bytes i = directory_entry_of (drop (64 + 112 * i) bytes)

abbrev pub block_of : List ℕ → DirBlock
block_of bytes = record {
  shutdown = slice_index bytes 9;
  volume = part 16 32 bytes;
  forward = big_endian_u64_at 48 bytes;
  reverse = big_endian_u64_at 56 bytes;
  entries = map (directory_entry_at bytes) (range_with_len 0 (entry_count bytes));
}

-- the file's blocks have room for its size
abbrev pub has_room_for_size : Entry → Bool
has_room_for_size e = nat_le e.size (512 * e.block_count)

-- what must hold, in order, and the fault where it doesn't
abbrev pub entry_rules : List ℕ → List ℕ → List (Bool × DirFault)
entry_rules bytes places = map (λ (i : ℕ). (has_room_for_size (directory_entry_at bytes i), directory_faults.Entry i)) places

abbrev pub block_rules : List ℕ → List (Bool × DirFault)
block_rules bytes =
    (bytes_eq (part 0 8 bytes) magic, directory_faults.Magic)
    ∷ (nat_le (entry_count bytes) 4, directory_faults.Count)
    ∷ (from_be_bytes w32 (part 12 4 bytes) == 512, directory_faults.BlockSize)
    ∷ entry_rules bytes (range_with_len 0 (entry_count bytes))

abbrev pub unless_broken : {F T : Type 0} → Option F → T → Result T F
unless_broken None x = Ok x
unless_broken (Some fault) x = Err fault

-- the block, or its first fault
unfoldable pub read_block : List ℕ → Result DirBlock DirFault
read_block bytes = unless_broken (first_broken (block_rules bytes)) (block_of bytes)

-- each entry may be read again
abbrev pub HasRooms : DirBlock → Type 0
HasRooms d = All (λ e. has_room_for_size e ≡ true) d.entries

-- what the types of the fields promise
pub record FitsEntry (e : Entry) : Type 0 where
  pub name : length e.name ≡ 56
  pub first_block : e.first_block < 2 ^ 64
  pub block_count : e.block_count < 2 ^ 64
  pub size : e.size < 2 ^ 64
  pub create_date : length e.create_date ≡ 8
  pub create_time : length e.create_time ≡ 8
  pub reserved : length e.reserved ≡ 7
  pub close_time : length e.close_time ≡ 8

pub record FitsHead (d : DirBlock) : Type 0 where
  pub volume : length d.volume ≡ 32
  pub forward : d.forward < 2 ^ 64
  pub reverse_link : d.reverse < 2 ^ 64
  pub entries : length d.entries ≤ 4

-- These bytes are a block with these fields, of any revision, and with anything in place of unused entries.
pub record IsBlock (bytes : List ℕ) (d : DirBlock) : Type 0 where
  pub revision : ℕ
  pub unused : List ℕ
  pub spelled : bytes ≡ used_bytes revision d ++ unused
  pub rooms : HasRooms d
  pub head : FitsHead d
  pub entries : All FitsEntry d.entries

-- ---- what an entry says

-- an entry of zero bytes
abbrev pub blank : Entry
blank = record {
  name = replicate 56 0;
  first_block = 0;
  block_count = 0;
  size = 0;
  create_date = replicate 8 0;
  create_time = replicate 8 0;
  time_type = 0;
  reserved = replicate 7 0;
  close_time = replicate 8 0;
}

-- the entry of a file that has just been begun: without blocks, and not closed
abbrev pub begun_entry : List ℕ → ℕ → Parts → Entry
begun_entry name first_block created = record {
  name = padded_text 56 name;
  first_block = first_block;
  block_count = 0;
  size = 0;
  create_date = day_month_year created;
  create_time = time_text created;
  time_type = 0;
  reserved = replicate 7 0;
  close_time = dashes;
}

-- the entry at another size, with as many blocks as the size needs
abbrev pub sized : ℕ → Entry → Entry
sized size e = record e { size = size; block_count = (size + 511) / 512 }

-- the file is closed where its close time is not the dashes
abbrev pub is_closed : Entry → Bool
is_closed e = not (bytes_eq e.close_time dashes)
