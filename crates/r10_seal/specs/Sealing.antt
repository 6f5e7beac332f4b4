-- A last file that was left open, and the file that it is with its index.
use Rattle.std.specs.Prelude.{◌≡◌, ◌⊎◌, ℕ, ◌^◌, ◌<◌, ◌≤◌, ◌++◌, false, List, [], ◌∷◌, length, Some, None}
use Rattle.r10_count.specs.declared.civil.Parts.{Parts}
use Rattle.r10_medium.specs.Disk.{Disk, Image}
use Rattle.r10_medium.specs.PowerLoss.{ComesBy, PutsSome}
use Rattle.r10_blockout.specs.Blocks.{Shows, bytes_from, file_blocks}
use Rattle.r10_body.specs.Cost.{file_cost}
use Rattle.r10_body.specs.Files.{PacketsSay}
use Rattle.r10_body.specs.Packets.{Packet, file_bytes, file_entries}
use Rattle.r10_dirblock.specs.Block.{sized}
use Rattle.r10_dirblock.specs.Texts.{time_text}
use Rattle.r10_dirblock.specs.declared.entry.Entry.{Entry as DirectoryEntry}
use Rattle.r10_dirchain.specs.Steps.{last_listing, updated}
use Rattle.r10_dirchain.specs.Chain.{at}
use Rattle.r10_dirchain.specs.OnMedium.{Turned}
use Rattle.r10_dirchain.specs.declared.chain.ChainBlock.{ChainBlock}
use Rattle.r10_index.specs.Written.{IsGroup, index_of}
use Rattle.r10_machine.specs.Machine.{File}
use Rattle.r10_machine.specs.ControlCalls.{closed_in}
use Rattle.r10_file_rules.specs.Times.{last_mark}
use Rattle.r10_file_rules.specs.declared.times.TimeMark.{TimeMark}

-- the bytes are these packets: a strict file without an index, with this setup text
pub record IsUnsealed (bytes : List ℕ) (text : List ℕ) (packets : List Packet) : Type 0 where
  pub bytes_are : bytes ≡ file_bytes packets
  pub say : PacketsSay packets text (file_entries packets) false

-- what they cost
abbrev pub cost_of_packets : List ℕ → List Packet → ℕ
cost_of_packets text packets = file_cost text (file_entries packets)

-- their bytes with their index after them, in groups of so many nodes
abbrev pub sealed_bytes : ℕ → List Packet → List ℕ
sealed_bytes nodes packets = file_bytes (packets ++ index_of nodes packets)

-- the entry of the file with its index, closed at a time
abbrev pub sealed_entry : ℕ → List Packet → Parts → DirectoryEntry → DirectoryEntry
sealed_entry nodes packets civil e = record (sized (length (sealed_bytes nodes packets)) e) { close_time = time_text civil }

-- the file with its index
abbrev pub sealed : ℕ → List Packet → File → File
sealed nodes packets f = closed_in (length (sealed_bytes nodes packets)) f

-- the number of the block that lists the last file
abbrev pub listing_block : List ChainBlock → List ℕ
listing_block chain = (at chain (last_listing chain)).number ∷ []

-- over an image that shows the file with its index, and where nothing but blocks of that was put, the directory is this one:
-- it lists the file closed at its last time
pub record ListsSealed (nodes : ℕ) (e : DirectoryEntry) (packets : List Packet) (chain made : List ChainBlock)
    (old image : Image) : Type 0 where
  pub group : IsGroup nodes
  pub short : length (file_bytes packets) < 2 ^ 63
  pub time : TimeMark
  pub last : last_mark None packets ≡ Some time
  pub made_is : made ≡ updated (sealed_entry nodes packets time.civil e) chain
  pub between : Image
  pub puts : PutsSome e.first_block (file_blocks (sealed_bytes nodes packets)) old between
  pub shows : Shows between e.first_block (sealed_bytes nodes packets)
  pub turned : Turned made (listing_block chain) between image

-- The last file, with this entry, costs no more than its part of the medium has; the medium shows it with its index then, in
-- groups of so many nodes, and the directory lists it closed at its last time.
pub record SealsFile (old : Image) (chain : List ChainBlock) (e : DirectoryEntry) (nodes area : ℕ) (new : Image)
    (made : List ChainBlock) : Type 0 where
  pub text : List ℕ
  pub packets : List Packet
  pub unsealed : IsUnsealed (bytes_from old e.first_block e.size) text packets
  pub room : cost_of_packets text packets ≤ area
  pub shows : Shows new e.first_block (sealed_bytes nodes packets)
  pub closed : ListsSealed nodes e packets chain made old new

-- blocks of the file with its index were put over these, or the file is closed
abbrev pub IsPartlySealed : ℕ → DirectoryEntry → List Packet → List ChainBlock → Image → Image → Type 0
IsPartlySealed nodes e packets chain old image =
    PutsSome e.first_block (file_blocks (sealed_bytes nodes packets)) old image
    ⊎ ((made : List ChainBlock) × ListsSealed nodes e packets chain made old image)

-- at a moment of a seal: blocks of the file with its index are put over those that could be left, or the file is closed
abbrev pub IsSealing : ℕ → DirectoryEntry → List Packet → List ChainBlock → Disk → Image → Type 0
IsSealing nodes e packets chain old image =
    ComesBy (PutsSome e.first_block (file_blocks (sealed_bytes nodes packets))) old image
    ⊎ ((made : List ChainBlock) × ListsSealed nodes e packets chain made old.blocks image)
